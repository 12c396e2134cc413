pub mod LiveRuns
