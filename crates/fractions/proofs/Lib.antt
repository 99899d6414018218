-- Laws of fractions. A crate above cites them as Rattle.fractions.proofs.NAME.
pub mod Cases
pub mod Arrays
pub mod Divisors
pub mod Twos
pub mod Stripping
pub mod Order
pub mod LowestTerms
pub mod Additions
pub mod Ranges
pub mod Shares
