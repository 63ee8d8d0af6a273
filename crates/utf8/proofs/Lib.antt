-- The theorem: what is taken is UTF-8 by RFC 3629
pub mod Rfc3629
pub mod Examples
-- For the layers above, each law stated once.
pub mod AsciiLaws
pub mod Accepted
-- The laws under them, and for the proofs of this crate's functions.
mod Cases
mod Firsts
mod Steps
mod Goes
mod Judged
mod Encodings
mod Numbers
mod Decoded
-- Demand 1, of every public entry
pub mod AsksNothing
