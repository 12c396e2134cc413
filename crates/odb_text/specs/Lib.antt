-- What public clauses cite: it has to be believed.
pub mod Lines
pub mod Places
pub mod Drawings
pub mod Rows
pub mod Labels
pub mod Results
pub mod FullPlans
pub mod Traces
pub mod SamePlans
pub mod DrawnLines
-- What serves invariants and private clauses alone: the results as JSON by their parts.
pub mod ResultParts
