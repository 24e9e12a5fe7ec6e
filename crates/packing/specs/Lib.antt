-- How the answers of the calls are packed for callers in other languages.
pub mod Packing
