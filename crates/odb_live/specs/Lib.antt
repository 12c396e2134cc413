-- What public clauses cite: it has to be believed.
pub mod Labels
pub mod Live
pub mod LiveParts
pub mod Requests
pub mod ServiceResponses
pub mod Replies
-- For invariants and private clauses.
pub mod Planned
pub mod LabelTables
pub mod LiveRuns
