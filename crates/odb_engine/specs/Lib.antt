-- What public clauses cite: it has to be believed.
pub mod Cascade
pub mod FirstFault
pub mod Inputs
pub mod Engines
pub mod Forms
pub mod Halts
pub mod Commands
pub mod AllFaults
pub mod ReadAgain
pub mod ResponseLines
pub mod Replays
pub mod Rules
pub mod Runs
pub mod Replayed
pub mod Matches
pub mod Rests
pub mod Contents
pub mod FullPlans
pub mod Tasks
pub mod Written
pub mod Located
pub mod lines
-- For invariants and private clauses.
pub mod Answered
pub mod Accepted
