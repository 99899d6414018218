-- Theorems of fairness. A crate above cites them as Rattle.fairness.proofs.NAME.
pub mod Parts
pub mod Anys
pub mod Sums
pub mod Nets
pub mod NetOfProblem
pub mod Criterion
pub mod Uniqueness
pub mod SameRates
pub mod Bottlenecks
pub mod Rounds
pub mod Products
pub mod Denominators
pub mod Running
pub mod Figure1IsFair
pub mod EverySessionIsRestricted
pub mod Answers
pub mod Figure1Shares
pub mod SettledIsFair
pub mod CommonDenominator
mod Examples
