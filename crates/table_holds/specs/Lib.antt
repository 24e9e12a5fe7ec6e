-- Whether a table holds, as the code tests it.
pub mod Tests
pub mod Laws
