-- Document 01, "The listing"
pub mod Lines
pub mod Steps
pub mod Reads
