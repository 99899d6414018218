-- The definitions that the contracts of records cite.
pub mod Limits
pub mod Refusals
pub mod Format
pub mod Run
