mod LawLemmas
mod MemoryLemmas
mod ReplayedLemmas
mod WrittenLemmas
