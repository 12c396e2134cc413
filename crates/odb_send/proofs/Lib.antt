pub mod PairLemmas
mod PartLemmas
mod ResponseLemmas
pub mod MarkLemmas
pub mod SelectLemmas
pub mod PositionLemmas
pub mod NameLemmas
pub mod UrlLemmas
pub mod LawLemmas
pub mod DependsLemmas
pub mod TextLemmas
pub mod PlanLemmas
pub mod HeaderLemmas
pub mod ReadLemmas
pub mod SoundLemmas
mod ResendLemmas
pub mod NextPartLemmas
pub mod CutLemmas
pub mod PartLawLemmas
mod OneRestLemmas
