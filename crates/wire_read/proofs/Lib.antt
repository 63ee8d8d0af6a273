-- For the layers above, each law stated once.
pub mod PartLaws
pub mod Cases
pub mod Bounds
pub mod Codes
pub mod Ranges
pub mod Fuel
pub mod Local
pub mod Answers
pub mod Places
pub mod SignedLaws
pub mod Examples
-- For the proofs of this crate's functions.
mod Joining
mod Groups
mod MadeOf
mod FixedLaws
mod LittleEndian
-- Demand 1, of every public entry
pub mod AsksNothing
