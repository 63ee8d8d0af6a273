-- What the contracts of `utf8` cite, and the encoding that the theorem `rfc3629` speaks of.
pub mod Grammar
-- what most texts are
pub mod Ascii
pub mod Encoding
-- for the private functions
pub mod Begun
