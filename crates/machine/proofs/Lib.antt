-- Laws of the machine. A crate above cites them as Rattle.machine.proofs.NAME.
pub mod Turns
mod Sessions
mod Answers
