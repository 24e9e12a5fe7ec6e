-- What the search for the reached labels establishes, and that it finds 01's R.
pub mod Reach
pub mod Laws
