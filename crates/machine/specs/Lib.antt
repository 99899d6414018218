-- The definitions that the contracts of machine cite.
pub mod Machine
