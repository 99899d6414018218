-- Laws of words as sets, over any number of digits. A crate above cites them as Rattle.sessions.proofs.NAME.
pub mod Members
pub mod Counts
pub mod Operations
pub mod Walks
pub mod Writes
pub mod EachMember
mod Examples
pub mod Loops
pub mod Chains
pub mod Remaining
