-- The theorem for a user, and that what it takes each call to ensure is what the contracts say.
pub mod Queue
pub mod Promise
pub mod Same
pub mod Exactly
pub mod Contracts
pub mod Examples
-- Laws under it.
mod Due
mod History
mod Steps
