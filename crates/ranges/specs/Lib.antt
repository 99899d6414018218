-- The definitions that the contracts of ranges cite.
pub mod Ranges
