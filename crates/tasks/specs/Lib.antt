-- The definitions that the contracts of tasks cite.
pub mod Figure2
pub mod Packets
