-- What public clauses cite, and has to be believed.
pub mod batch
pub mod canonical
pub mod recorded
pub mod AllFaults
pub mod Documents
pub mod Faults
pub mod Headers
pub mod LeastRules
pub mod Members
pub mod Names
pub mod Nesting
pub mod Refusals
pub mod RuleFaults
pub mod Statuses
pub mod Texts
pub mod WholeNumbers
-- What invariants, private clauses and proofs cite: nothing to believe.
pub mod Asked
pub mod BrokenRules
pub mod DataCodes
pub mod HeaderMaps
pub mod ListsBelow
pub mod SameTexts
