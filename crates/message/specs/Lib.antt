-- What the contracts of `message` cite, in the order of document 01, "The messages"
pub mod Frames
pub mod Spans
pub mod Parts
-- What a record says, wherever its bytes are
pub mod Meaning
