-- What a caller in C sees of calls, and what is to hold of it: a fixed header, a reading, demand 3, and demand 2
pub mod Header
pub mod Readings
pub mod Calls
pub mod RoundTrip
-- that each start and length that it gets lies within the frame
pub mod Within
-- and what each function returns and leaves, by the grounds of the papers
pub mod Entries
