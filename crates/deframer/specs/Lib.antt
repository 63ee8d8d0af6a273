-- Document 01, "Cutting": what the contracts cite, and the uncut reading, which `thm_stream` is about
-- The answers in the papers' numbers
pub mod Progress
pub mod End
pub mod Step
pub mod InNumbers
pub mod Deframe
pub mod Stream
