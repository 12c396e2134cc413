-- What public clauses cite, and has to be believed.
pub mod Places
pub mod Parts
pub mod ResponseParts
pub mod Repeats
pub mod Units
pub mod Answers
pub mod Rests
pub mod NextPart
pub mod Faults
pub mod Laws
pub mod Texts
-- For invariants and private clauses: nothing to believe.
pub mod Pieces
pub mod Marks
