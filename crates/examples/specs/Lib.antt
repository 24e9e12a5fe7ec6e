-- The lettered examples of document 01 as claims, and their proofs.
pub mod Claims
pub mod Listed
pub mod Proofs
pub mod Published
pub mod Tabled
pub mod Witness
pub mod Clients
pub mod Joined
pub mod Copied
