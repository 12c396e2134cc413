-- What public clauses cite, and has to be believed.
pub mod Explanations
