-- Laws of conditions. A crate above cites them as Rattle.conditions.proofs.NAME.
pub mod OneByOne
pub mod Means
mod OneSession
mod LinkByWords
pub mod EmptySettled
