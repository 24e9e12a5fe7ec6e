-- What a file of cases means by its bytes.
pub mod Codes
