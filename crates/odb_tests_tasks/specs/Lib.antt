pub mod Replayed
