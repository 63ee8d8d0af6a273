-- For the proofs of this crate's functions
mod Listed
mod Example
