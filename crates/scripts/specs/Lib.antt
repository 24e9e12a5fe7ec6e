-- What the contracts cite, and laws that the proofs cite.
pub mod Counted
pub mod Runs
pub mod NotGone
