pub mod Decoded
pub mod OneFront
pub mod OneMethod
pub mod OneRun
pub mod OneSegment
