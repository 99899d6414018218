-- Laws of links. A crate above cites them as Rattle.links.proofs.NAME.
pub mod Sizes
pub mod Bounds
pub mod Waits
pub mod Checks
