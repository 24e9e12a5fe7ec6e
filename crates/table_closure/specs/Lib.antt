-- Sweeps over the rows of I, rounds of movers, and the least closed table.
pub mod Capabilities
pub mod Sweeps
pub mod Laws
pub mod Rounds
