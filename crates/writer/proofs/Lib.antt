-- For the proofs of this crate's functions
mod Stores
mod RowLoop
mod Pieces
mod Measures
mod Most
mod Frames
mod ByKind
mod Parts
mod Refusals
mod Slots
-- Demand 1, of every public entry
pub mod AsksNothing
-- Document 02, P11: what the ceiling decides
pub mod Under
