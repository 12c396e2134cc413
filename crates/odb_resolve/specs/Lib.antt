-- What public clauses cite, and has to be believed.
pub mod Texts
pub mod Urls
pub mod Dots
pub mod Joins
pub mod Safety
pub mod Roots
pub mod Resolutions
pub mod Below
-- What private clauses cite: nothing to believe.
pub mod Classes
