-- For the proofs of this crate's functions
mod Signed
-- For the crates above
pub mod Made
-- For whoever changes a schema
pub mod AttachmentSlot
-- Demand 1, of every public entry
pub mod AsksNothing
