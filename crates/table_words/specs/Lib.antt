-- Bytes as words of 64 bits; words as sets of bits, their lowest bits and their sums; bits that loops add; a table in words.
pub mod Words
pub mod BitSets
pub mod Lowest
pub mod OverBits
pub mod Sums
pub mod Adds
pub mod Transposes
pub mod Layout
pub mod Ones
