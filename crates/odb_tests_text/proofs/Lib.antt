mod ArrowLemmas
mod PartLemmas
mod RestLemmas
mod UnitLemmas
