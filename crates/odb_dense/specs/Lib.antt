-- What public clauses cite, and has to be believed.
pub mod ByKey
pub mod Extremes
pub mod Lists
pub mod Marks
-- What invariants and private clauses cite: nothing to believe.
pub mod Bits
pub mod Both
pub mod Parts
pub mod Places
pub mod Queue
pub mod Starts
