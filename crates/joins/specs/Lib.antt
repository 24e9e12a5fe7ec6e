-- What is proved of joining.
pub mod Behind
pub mod Forests
pub mod Tables
pub mod Sheets
pub mod Joined
pub mod Parts
pub mod Sequence
pub mod Writing
