-- Demand 1, of every public entry
pub mod AsksNothing
-- Each export has the contract of the library's function that it calls
pub mod AsTheLibrary
