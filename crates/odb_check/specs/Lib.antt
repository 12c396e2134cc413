-- What public clauses cite: it has to be believed.
pub mod FaultTable
pub mod Positions
pub mod NameFaults
pub mod LeastNameFault
pub mod AllNameFaults
pub mod Firsts
pub mod Units
pub mod Needs
pub mod Levels
pub mod Texts
pub mod Requests
pub mod Plans
pub mod PlanGraph
pub mod Seeds
pub mod Starts
pub mod Laws
-- What serves invariants and private clauses: no public clause cites it.
pub mod Tables
pub mod Resolved
pub mod Walks
pub mod PhaseFaults
pub mod Marks
