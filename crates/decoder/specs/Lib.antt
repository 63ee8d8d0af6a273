-- What the contracts of `decoder` cite, in the order of document 01, "The messages"
pub mod Rows
pub mod Fields
pub mod Decoding
pub mod DecoderState
