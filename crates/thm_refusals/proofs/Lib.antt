-- One theorem for each entry
pub mod Header
pub mod Deframer
pub mod Queue
pub mod Fields
pub mod Reader
pub mod FieldWriter
-- and that what they take a call to ensure is what the contract says
pub mod Contracts
