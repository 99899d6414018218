-- Laws of the ends. A crate above cites them as Rattle.ends.proofs.NAME.
pub mod OwnLimits
