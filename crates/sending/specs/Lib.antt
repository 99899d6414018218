-- The definitions that the contracts of sending cite.
pub mod Sending
