-- All capabilities of one kind and label as one word of partners, and that its rule is theirs; what a table that holds has.
pub mod Partners
pub mod Rules
pub mod Laws
pub mod Facts
pub mod Standing
