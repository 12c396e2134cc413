-- What public contracts cite: the meaning of an execution, which has to be believed.
pub mod Choices
pub mod Courses
pub mod Calls
pub mod Recordings
pub mod Faults
-- What private clauses and proofs cite. A wrong definition here cannot make a public promise wrong.
pub mod Advances
