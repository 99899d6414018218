-- Laws of declarations. A crate above cites them as Rattle.declarations.proofs.NAME.
pub mod OwnLimit
pub mod Copied
pub mod DeclaredPaths
pub mod KeepsLengths
pub mod KeepsRanges
pub mod Undeclared
mod Order
