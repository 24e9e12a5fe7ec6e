-- The definitions of document 01, in the order to read them, with the product's demand 3 (Noninterference) and demand 2's steps (Processes), and
-- what document 02 promises beside its definitions (Requests); then what is proved of them.
pub mod Finite
pub mod Records
pub mod Climbing
pub mod Refusals
pub mod Validity
pub mod Tables
pub mod Analysis
pub mod Least
pub mod Observer
pub mod Steps
pub mod Verdicts
pub mod Scripts
pub mod MoveList
pub mod Joins
pub mod Copies
pub mod Calls
pub mod Numbers
pub mod Listing
pub mod Noninterference
pub mod Processes
pub mod Requests
