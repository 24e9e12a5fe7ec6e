-- What the comparisons of a replay say.
pub mod Comparing
