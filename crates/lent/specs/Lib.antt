-- The definitions that the contracts of lent cite.
pub mod Lent
