-- What the contracts cite, and laws that the proofs cite.
pub mod Listed
pub mod Filling
pub mod Laws
