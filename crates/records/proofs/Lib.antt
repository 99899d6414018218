-- Laws of records. A crate above cites them as Rattle.records.proofs.NAME.
pub mod Alls
pub mod Chains
pub mod PathBytes
pub mod Somes
pub mod Bodies
pub mod TakenKinds
pub mod Rates
pub mod Refusing
pub mod ReadRecords
pub mod Runs
mod PastEnd
pub mod AboveLine
