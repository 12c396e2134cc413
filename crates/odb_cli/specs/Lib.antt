-- What contracts of the program cite.
pub mod Options
