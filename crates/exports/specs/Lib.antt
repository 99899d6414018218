-- The definitions that the contracts of exports cite.
pub mod Reports
pub mod Meanings
