-- The meaning of a run, which has to be believed.
pub mod State
pub mod Failing
pub mod Steps
pub mod Runs
pub mod Taking
pub mod States
pub mod Units
pub mod Answers
pub mod Laws
pub mod Possible
pub mod Whole
pub mod LiveEvents
pub mod PossibleLive
pub mod LiveLaws
pub mod Choosing
pub mod Resolving
pub mod Refusals
