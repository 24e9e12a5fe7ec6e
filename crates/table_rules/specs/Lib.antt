-- What the tests of the rules decide.
pub mod Tests
pub mod Laws
