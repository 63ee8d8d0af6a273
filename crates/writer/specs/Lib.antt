-- Document 01, "The messages": the writer, in its order
pub mod Encoding
pub mod Writing
-- What the private functions promise each other
pub mod Straight
