-- What the contracts of `wire_write` cite: document 01, "Fields (Protobuf encoding)" and "varints shortest".
pub mod Writing
