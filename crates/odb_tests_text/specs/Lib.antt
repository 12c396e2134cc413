pub mod Parts
pub mod Rests
pub mod Texts
pub mod Units
