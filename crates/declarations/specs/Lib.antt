-- The definitions that the contracts of declarations cite.
pub mod Declaring
