-- Laws of events. A crate above cites them as Rattle.events.proofs.NAME.
mod Rooms
mod Needs
mod Steps
pub mod DeclaredPaths
pub mod Refusals
pub mod Order
