-- Document 01, "Waiting jobs", as a promise over any calls: when a job is due, the history, the calls as C makes them, and what
-- each call does by the history before it.
pub mod Due
pub mod History
pub mod Calls
pub mod Promise
