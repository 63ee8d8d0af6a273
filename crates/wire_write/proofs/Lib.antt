-- What a user is promised: what was written reads back.
pub mod ReadBack
pub mod RoundTrip
-- Document 01's examples
pub mod Examples
-- For the layers above, each law stated once.
pub mod Encoding
pub mod Outputs
pub mod VarintLoop
-- For the proofs of this crate's functions.
mod SignedLaws
-- Demand 1, of every public entry
pub mod AsksNothing
