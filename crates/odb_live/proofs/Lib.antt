mod PlannedLemmas
mod LiveLemmas
pub mod OpenedLemmas
mod LivePartLemmas
mod ReplyLemmas
mod LabelLemmas
mod LiveLawLemmas
