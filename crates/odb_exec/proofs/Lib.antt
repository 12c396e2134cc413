pub mod ChoiceLemmas
pub mod CourseLemmas
pub mod PickLemmas
pub mod CallLemmas
pub mod RecordedLemmas
pub mod OrderLemmas
mod SingleLemmas
