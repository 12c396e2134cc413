-- What public clauses cite, and has to be believed.
pub mod Base64Url
pub mod Fronts
pub mod Identifiers
pub mod Methods
pub mod Runs
pub mod Segments
-- What private clauses cite: nothing to believe.
pub mod Classes
