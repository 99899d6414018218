-- The definitions that the contracts of events cite.
pub mod Events
