-- Frames, tiling and the end of a stream; then with the readings
pub mod Standing
pub mod Faithful
pub mod FaithfulReading
pub mod Examples
-- The theorem for a user, and that what it takes each call to ensure is what the contracts say
pub mod Traced
pub mod Contracts
