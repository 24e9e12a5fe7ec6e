-- Ways up from a record, what is found there, and their laws.
pub mod Ways
pub mod Laws
pub mod Valid
