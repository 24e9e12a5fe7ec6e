-- What a record's bytes are, and bytes that are written record by record.
pub mod Laws
pub mod Written
pub mod Climbs
