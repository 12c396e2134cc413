-- What public clauses cite: it has to be believed.
pub mod Readable
pub mod Responses
pub mod BodyTexts
pub mod Labels
pub mod OnePerId
pub mod NotWhole
pub mod ResponseDocuments
pub mod Completed
pub mod Fits
pub mod MatchFaults
pub mod LeastMatchFault
pub mod StatusFaults
-- What serves invariants and private clauses: no public clause cites it.
pub mod Parts
pub mod Passes
pub mod Places
pub mod Starts
