-- For a `match` on a field's number
mod FieldLaws
-- For the layers above
pub mod KindLaws
-- Demand 1, of every public entry
pub mod AsksNothing
