-- The definitions that the contracts and laws of conditions cite.
pub mod Settled
pub mod Conditions
pub mod OneSession
