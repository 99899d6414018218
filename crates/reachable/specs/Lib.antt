-- The definitions that the theorems of reachable cite.
pub mod Reachable
pub mod Invariant
pub mod Cycle
