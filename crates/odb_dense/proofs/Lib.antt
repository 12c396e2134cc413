pub mod BitLemmas
pub mod CountLemmas
pub mod PlacedLemmas
pub mod QueuedLemmas
pub mod MarkLemmas
pub mod KeyLemmas
pub mod RowLemmas
pub mod PartLemmas
