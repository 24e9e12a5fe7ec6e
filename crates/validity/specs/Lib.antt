-- What the contracts cite, and the laws that the proofs cite.
pub mod Arriving
pub mod Laws
