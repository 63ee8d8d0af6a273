-- For the layers above, each law stated once.
pub mod Outputs
-- For the proofs of this crate's functions.
mod Copied
-- Demand 1, of every public entry
pub mod AsksNothing
