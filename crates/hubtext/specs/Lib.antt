-- What the program writes.
pub mod Converts
