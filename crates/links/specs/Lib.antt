-- The definitions that the contracts of links cite.
pub mod Links
pub mod FCheck
