-- Laws of ranges. A crate above cites them as Rattle.ranges.proofs.NAME.
mod Stops
pub mod FitsMeans
pub mod FitsLinks
pub mod FitsSources
pub mod FitsPackets
