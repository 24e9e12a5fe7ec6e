-- What a stored case's buffers hold.
pub mod Storing
