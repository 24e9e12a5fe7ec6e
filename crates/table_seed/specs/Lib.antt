-- The bits that a table must have by itself.
pub mod Seeds
pub mod Laws
