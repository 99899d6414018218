-- Theorems of soundness. A crate above cites them as Rattle.soundness.proofs.NAME.
pub mod Weights
pub mod Chosen
pub mod Changes
pub mod Shares
pub mod Moves
pub mod CheckEnds
pub mod Holding
pub mod Rules
pub mod Leaving
pub mod Restricting
pub mod EveryRule
pub mod Waits
pub mod KeepsWaiting
pub mod SendsCycle
