-- Climbs that note what they find: what the contracts cite, and its laws.
pub mod Notes
pub mod Laws
