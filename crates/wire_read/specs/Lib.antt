-- What the contracts of `wire_read` cite, in the order of document 01, "Fields (Protobuf encoding)".
pub mod Part
pub mod Varint
pub mod Tags
pub mod Skipping
pub mod Fields
pub mod Placed
