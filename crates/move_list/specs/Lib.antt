-- What the contracts cite, and laws that the proofs cite.
pub mod Pairs
pub mod Laws
