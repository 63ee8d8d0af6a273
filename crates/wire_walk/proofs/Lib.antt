-- What a user is promised: of a walk with a reader, and of a search for a field
pub mod LeftToRight
pub mod LastWins
-- Document 01's examples
pub mod Examples
-- For the layers above, each law stated once.
pub mod StepLaws
pub mod WalkLaws
-- For the proofs of this crate's functions.
mod LastLaws
-- Demand 1, of every public entry
pub mod AsksNothing
