-- Demand 2: what the writer accepts reads back as the same record
pub mod InRange
pub mod ReadsBack
-- what it refuses
pub mod Refusals
-- how large a message it accepts
pub mod MessageFits
-- bytes 15 and 16 of its frame
pub mod LastTwo
-- and that all that a reading hands out lies within the frame
pub mod Lies
pub mod ReadWithin
-- a reading with another version
pub mod Versions
-- The three of the functions themselves
pub mod Calls
