-- Document 01, "Refusal numbers": the grounds of each entry, in the paper's words and order
pub mod Header
pub mod Deframer
pub mod Queue
pub mod Fields
pub mod Reader
pub mod FieldWriter
