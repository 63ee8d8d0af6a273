-- The messages of source document 000, and the numbers by which code names them
pub mod Schema
pub mod Kinds
-- Reading by them
pub mod Targets
