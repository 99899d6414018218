-- The definitions that the contracts of ends cite.
pub mod Figure3
pub mod Figure4
