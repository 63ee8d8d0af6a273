-- Laws that belong to no one function, from the ground up
pub mod Lists
pub mod Known
pub mod Advance
pub mod Taken
pub mod Uncut
-- Document 02, P11
pub mod PastCeiling
-- Document 02, P2
pub mod Eight
pub mod LastTwoCut
pub mod LastTwoUncut
-- Document 02, P11, of a whole stream
pub mod UncutUnder
-- Demand 1, of every public entry
pub mod AsksNothing
