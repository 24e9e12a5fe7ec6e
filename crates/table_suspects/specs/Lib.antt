-- What a suspect makes suspect, and the least closed set of suspects.
pub mod Suspects
