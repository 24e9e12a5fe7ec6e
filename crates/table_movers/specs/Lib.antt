-- Movers: what they are, the rules by them, and how they are folded from the partners.
pub mod Movers
pub mod Rules
pub mod Folds
