-- Demand 1, of every public entry
pub mod AsksNothing
-- For the proofs of this crate's functions
mod NumberLaws
