-- Laws of handed. A crate above cites them as Rattle.handed.proofs.NAME.
pub mod Ways
pub mod Clauses
pub mod Passing
pub mod OnceOver
mod Stops
mod Holding
pub mod SumsAreRates
pub mod EmptyPasses
