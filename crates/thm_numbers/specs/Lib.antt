-- Any call of any entry that gives refusal numbers, what its contract ensures, and the number in its answer
pub mod AnyCall
