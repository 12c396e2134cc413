-- What invariants, private clauses and proofs cite: nothing to believe.
pub mod Dependents
pub mod Graphs
pub mod Counts
pub mod Lanes
pub mod Openings
pub mod Propagation
pub mod Kept
pub mod Ends
