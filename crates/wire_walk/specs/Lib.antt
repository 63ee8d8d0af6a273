-- What the contracts of `wire_walk` cite: document 01, "Fields (Protobuf encoding)", "The field walk is a reader".
pub mod Reader
pub mod Walk
pub mod Last
