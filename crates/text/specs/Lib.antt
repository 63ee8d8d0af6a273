-- Text in a lent buffer
pub mod Digits
pub mod Numbers
pub mod Added
pub mod Text
