-- Laws of the calculation. A crate above cites them as Rattle.calculation.proofs.NAME.
pub mod FirstOf
pub mod BindingPlaces
pub mod Upto
pub mod Writing
pub mod SameResults
pub mod Outcomes
mod Examples
