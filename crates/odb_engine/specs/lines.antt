-- What public clauses cite: it has to be believed.
pub mod Lines
pub mod Sources
pub mod Answers
pub mod Numbers
-- For invariants and private clauses.
pub mod Steps
