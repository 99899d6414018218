-- The definitions that the contracts and laws of table cite.
pub mod Codes
pub mod Words
pub mod Values
