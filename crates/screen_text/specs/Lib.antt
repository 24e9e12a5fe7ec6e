-- The text filled is the one shown.
pub mod Laws
