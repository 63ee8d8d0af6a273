-- What a C caller sees of the library: each answer as numbers
pub mod Answers
pub mod Numbers
pub mod Kinds
