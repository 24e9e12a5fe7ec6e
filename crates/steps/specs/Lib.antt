-- What the contracts cite, and laws that the proofs cite.
pub mod Moves
pub mod Passes
pub mod Laws
