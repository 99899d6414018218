-- The definitions that the contracts of filling cite.
pub mod Lines
pub mod State
pub mod SmallestShare
pub mod OneRound
pub mod Crossings
