-- What the program writes, and its laws.
pub mod Listed
