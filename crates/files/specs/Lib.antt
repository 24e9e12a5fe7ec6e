-- What the contracts cite.
pub mod Counts
pub mod Filled
