-- What the contracts cite, and laws that the proofs cite.
pub mod Labels
pub mod Laws
