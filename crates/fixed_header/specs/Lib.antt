-- Document 01, "The 16 bytes": read, and written
pub mod Header
pub mod Put
