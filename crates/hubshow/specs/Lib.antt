-- What the program writes.
pub mod Shown
