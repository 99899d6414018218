-- Theorems of writing. A crate above cites them as Rattle.writing.proofs.NAME.
pub mod Appending
pub mod Laying
mod MoreRecords
mod LaidOut
mod Lowest
pub mod Lengths
pub mod Whole
pub mod Paths
pub mod ReadRecords
pub mod RunOver
pub mod ReadBack
pub mod OutputBytes
pub mod OutputInOrder
pub mod EqualOutput
pub mod ReadShapes
pub mod Rests
pub mod BytesBack
pub mod Declared
