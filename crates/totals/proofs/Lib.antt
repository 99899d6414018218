-- Laws of totals. A crate above cites them as Rattle.totals.proofs.NAME.
pub mod FineBounds
pub mod Held
