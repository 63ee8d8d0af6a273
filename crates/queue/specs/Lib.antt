-- Document 01, "Waiting jobs", in its order.
pub mod Due
pub mod Waiting
pub mod Calls
-- for the private functions
pub mod Found
