-- The seed, closed, is the least table.
pub mod Least
pub mod Laws
