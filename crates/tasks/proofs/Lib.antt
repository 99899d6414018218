-- Laws of the link task. A crate above cites them as Rattle.tasks.proofs.NAME.
pub mod Leaves
