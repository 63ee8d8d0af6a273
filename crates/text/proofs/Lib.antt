-- For the contracts of programs: what is added where there is room, and one thing after another
pub mod Adding
pub mod Decimal
-- Demand 1, of every public entry
pub mod AsksNothing
