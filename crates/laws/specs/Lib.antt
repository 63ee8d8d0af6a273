-- What a contract asks of a caller, and chains of rules
pub mod Asking
pub mod Chains
