-- What public clauses cite, and has to be believed.
pub mod Canonical
pub mod CanonicalLaws
pub mod HeldValues
-- What invariants, private clauses and proofs cite: nothing to believe.
pub mod CanonicalParts
pub mod Quoting
