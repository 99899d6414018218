-- Laws of filling. A crate above cites those of Uniqueness as Rattle.filling.proofs.Uniqueness.
mod Visits
mod SmallestShare
mod SmallestOfAll
mod Crossings
mod Remembering
mod LeavingALink
mod Leaving
mod Rates
mod OpenSessions
mod Chosen
mod RoundOfFigure1
mod LinksOfRound
mod AfterRound
mod BeginAndEnd
pub mod Uniqueness
