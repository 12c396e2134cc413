pub mod PartLemmas
pub mod RestLemmas
pub mod DocumentLemmas
pub mod OneLemmas
mod ReadableLemmas
pub mod SliceLemmas
pub mod IdLemmas
pub mod CompletedLemmas
mod LeftOutLemmas
pub mod PlaceLemmas
pub mod RowLemmas
pub mod UnitLemmas
pub mod RuleLemmas
pub mod FitLemmas
pub mod AnsweredLemmas
pub mod OneFaultLemmas
pub mod StartsLemmas
mod DoneLemmas
mod PassLemmas
pub mod JsonTextLemmas
mod StringLemmas
mod LexLemmas
mod PieceLemmas
pub mod SpliceLemmas
mod TextedLemmas
