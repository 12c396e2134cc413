-- What public contracts cite: the meaning of a run, which has to be believed.
pub mod run
-- What serves invariants and private clauses alone. A wrong definition here cannot make a public promise wrong.
pub mod invariants
