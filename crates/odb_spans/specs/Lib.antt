-- What public clauses cite, and has to be believed.
pub mod Spans
pub mod Positions
-- What private clauses and proofs cite: nothing to believe.
pub mod Cuts
pub mod Extents
pub mod Kinds
pub mod Parts
pub mod States
pub mod Walks
