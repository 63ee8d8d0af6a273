-- The laws that belong to no one function, from the smallest up. What a user is promised over calls is in `thm_queue`.
pub mod Search
pub mod Deadlines
pub mod Leader
pub mod Valid
pub mod CloseUp
pub mod Changes
-- Demand 1, of every public entry
pub mod AsksNothing
