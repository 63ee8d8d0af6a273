-- Document 01's checked examples
pub mod Examples
