-- The theorems for a user, and that what they take each call to ensure is what the contracts say
pub mod CHeader
pub mod CReading
pub mod CFaithful
pub mod CReadBack
pub mod CWithin
pub mod CLastTwo
pub mod NumbersBack
pub mod CExactly
pub mod CEight
pub mod CCeiling
pub mod Contracts
-- What the numbers of an answer say is the answer, and a contract that gives each number gives all of them
mod Told
mod Given
