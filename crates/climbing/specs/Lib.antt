-- Climbs past ambients: what the contracts cite, and its laws.
pub mod Up
pub mod Active
