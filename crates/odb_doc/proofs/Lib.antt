pub mod DistinctLemmas
pub mod ElementLemmas
mod LengthLemmas
mod MemberLemmas
pub mod ListedLemmas
pub mod NameLemmas
pub mod PartLemmas
pub mod RepeatLemmas
pub mod SetLemmas
mod ApartLemmas
mod ArrayLemmas
pub mod BatchLemmas
mod BodyLemmas
mod CanonicalLemmas
pub mod CanonicalReads
pub mod CanonicalShapes
mod FaultLemmas
mod FoundLemmas
mod FoundParts
mod LeastLemmas
mod LentLemmas
mod LineLemmas
mod HeaderLemmas
mod FoldedNames
mod QuoteLemmas
mod OneHeaders
pub mod OneLeast
mod OutcomeLemmas
mod OutcomeListLemmas
mod RecordingLemmas
mod ReferenceLemmas
pub mod ReadBackLemmas
pub mod SafeLemmas
mod RequestLemmas
pub mod ShapeFaultLemmas
mod SomeBatchLemmas
mod TextLemmas
mod TypeLemmas
mod UnbrokenLemmas
mod UrlRestLemmas
mod WatchLemmas
mod EventLemmas
