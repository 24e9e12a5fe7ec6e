-- What the contracts cite.
pub mod Visits
