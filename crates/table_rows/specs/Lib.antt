-- Which rows of I a step changes, and the rules of movers for a pair and for a row.
pub mod Changes
pub mod Rows
pub mod Laws
