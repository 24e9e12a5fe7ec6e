-- What the program lends of its files.
pub mod Lent
