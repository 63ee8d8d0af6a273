-- Demand 3: a list of calls of the deframer and of the end of a stream, the readings of the frames, and what a caller sees of both
pub mod Calls
pub mod Readings
pub mod Trace
