-- That spans name the parts
pub mod SpansStand
-- What a connection's ceiling decides
pub mod Under
-- For the layers above
pub mod Readings
-- For the proofs of this crate's functions
mod Headers
mod PartPlaces
mod Messages
mod WholeFrames
-- Demand 1, of every public entry
pub mod AsksNothing
-- The meaning of a record, in parts
pub mod MeaningLaws
