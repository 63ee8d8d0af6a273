-- Steps for a proof that walks the code over structs lent by `&mut`, from the general down. No proof here needs them now.
mod Words
pub mod Lent
pub mod Structs
-- Demand 1, of every public entry
pub mod AsksNothing
