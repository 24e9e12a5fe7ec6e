-- General laws on tests by loops and on sets that grow.
pub mod Loops
pub mod Grow
