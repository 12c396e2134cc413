pub mod BelowLemmas
pub mod EncodedLemmas
pub mod FolderLemmas
pub mod PathLemmas
pub mod TextLemmas
