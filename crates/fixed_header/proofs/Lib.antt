-- Laws of the codes, and the round trip of the 16 bytes
pub mod Digits
pub mod Codes
pub mod RoundTrip
pub mod Ceilings
pub mod LastTwo
-- Demand 1, of every public entry
pub mod AsksNothing
