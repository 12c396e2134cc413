-- What public clauses cite: it has to be believed.
pub mod Handles
-- What a slot owns.
pub mod Owned
