-- Laws of the search. A crate above cites them as Rattle.search.proofs.NAME.
pub mod Paths
mod Turns
pub mod Uniqueness
