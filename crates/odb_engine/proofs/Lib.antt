mod ReadLemmas
mod SourceLemmas
pub mod EngineLemmas
pub mod MemoryLemmas
mod ReplayLemmas
pub mod RunLemmas
pub mod RunLawLemmas
pub mod LawLemmas
mod ReadAgainLemmas
mod ReplayedLemmas
pub mod SecondLemmas
mod CourseLemmas
mod TextLemmas
mod MatchLemmas
mod RestLemmas
mod CanonLawLemmas
mod MatchLawLemmas
mod RestLawLemmas
mod TaskLawLemmas
mod PairLawLemmas
mod ByteLemmas
mod LineLemmas
mod EachLineLemmas
mod EachLineLawLemmas
mod AllFaultLemmas
mod FirstFaultLemmas
mod VerdictLemmas
mod LocatedLemmas
mod ListLawLemmas
mod WrittenLemmas
mod PlaceTextLemmas
mod LocatedTextLemmas
mod OneLocatedLemmas
