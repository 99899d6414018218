-- Laws of table. A crate above cites them as Rattle.table.proofs.NAME.
pub mod Loops
pub mod InRange
pub mod Workables
pub mod Hops
pub mod Store
pub mod Places
pub mod Codes
pub mod ReadBack
pub mod Unchanged
pub mod Packets
pub mod Empty
pub mod EmptyLinks
