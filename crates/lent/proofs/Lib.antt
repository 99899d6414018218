-- Laws of lent. A crate above cites them as Rattle.lent.proofs.NAME.
pub mod Both
pub mod Fitting
pub mod Kept
pub mod Whole
