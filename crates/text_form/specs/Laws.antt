-- What is proved of the text form: that text to bytes to text is the identity, and what the functions' proofs cite.
pub mod Nesting
pub mod Numerals
pub mod Clients
pub mod Lines
pub mod Identity
pub mod Complete
pub mod Scanning
pub mod Exact
pub mod Placing
pub mod Putting
pub mod Walking
pub mod Listing
pub mod Room
pub mod Longest
pub mod Converted
pub mod Examples
