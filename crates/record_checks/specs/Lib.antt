-- The readings of records, and their laws.
pub mod Reading
pub mod Laws
