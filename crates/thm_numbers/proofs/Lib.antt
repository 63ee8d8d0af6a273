-- The theorem for a user
pub mod NeverRetired
pub mod Contracts
-- The numbers of the variants
pub mod Refusals
-- The laws under it: the numbers of fields
mod FieldNumbers
