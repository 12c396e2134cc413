-- What public clauses cite, and has to be believed.
pub mod Batches
pub mod Bodies
pub mod LeastFault
pub mod MediaTypes
pub mod Records
pub mod References
pub mod ShapeFaults
pub mod Shapes
pub mod UrlRests
-- What invariants, private clauses and proofs cite: nothing to believe.
pub mod BodyKinds
pub mod Lines
pub mod MembersFound
