-- Laws of booleans, tests and lists
pub mod Booleans
pub mod Tests
pub mod Lists
