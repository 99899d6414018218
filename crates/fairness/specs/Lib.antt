-- The definitions that the theorems of fairness, and the contracts above it, cite.
pub mod Sum
pub mod MaxMin
pub mod Figure1
pub mod Answer
pub mod Settled
