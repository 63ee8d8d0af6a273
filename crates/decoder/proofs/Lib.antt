-- For the layers above, each law stated once.
pub mod Steps
pub mod RowLaws
pub mod Results
pub mod ReadingSteps
pub mod SlotChanges
pub mod BytesSeen
pub mod PartEnds
pub mod Answers
-- For the proofs of this crate's functions.
mod Targets
mod Walk
mod RowUpdates
mod Fours
mod EntryLaws
mod StateLaws
mod MapEntries
mod FieldLoop
mod Whole
-- Demand 1, of every public entry
pub mod AsksNothing
