-- The parts of the text that hubscreen writes, how long they are, and what the parts make together.
pub mod Lines
pub mod Laws
pub mod Short
