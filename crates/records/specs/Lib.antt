-- Document 01, "The messages": what a record says
pub mod Records
-- The record to be written
pub mod Content
