-- Theorems of present_set. A crate above cites them as Rattle.present_set.proofs.NAME.
mod Collected
pub mod TableDeclares
pub mod TableDeclarable
pub mod Called
