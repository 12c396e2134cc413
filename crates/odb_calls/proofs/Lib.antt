mod AlikeLemmas
pub mod AnswerLemmas
mod BufferLemmas
mod FaultLemmas
pub mod HeaderLemmas
mod OutcomeLemmas
pub mod PositionLemmas
mod ReportedLemmas
pub mod ReturnLemmas
mod SessionLemmas
pub mod TargetLemmas
mod StepLemmas
