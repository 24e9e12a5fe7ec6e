-- What bytes put at a place make of a text, and the laws of it.
pub mod Puts
pub mod Digits
pub mod Laws
