-- Document 01, "Checked examples": what a row says, and the table
pub mod Rows
pub mod Bytes
pub mod Table
