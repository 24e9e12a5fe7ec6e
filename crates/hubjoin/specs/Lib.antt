-- What the program writes, and its laws.
pub mod Joined
pub mod Laws
