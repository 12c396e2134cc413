-- What public clauses cite, and has to be believed.
pub mod Contents
pub mod EventFaults
pub mod EventLists
pub mod Events
pub mod LeastEventFault
pub mod LeastOutcomeFault
pub mod OutcomeFaults
pub mod OutcomeLists
pub mod OutcomeValues
pub mod Outcomes
pub mod Parts
-- What invariants, private clauses and proofs cite: nothing to believe.
pub mod RawOutcomes
