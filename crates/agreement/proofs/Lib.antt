-- Theorems of agreement.
pub mod Poses
pub mod DeclaresPoses
pub mod SettledLinks
pub mod SettledEntries
pub mod SettledRates
pub mod Calculated
pub mod Agreement
pub mod PresentSet
pub mod OneRecord
pub mod LinksLoaded
pub mod SessionsLoaded
pub mod RunBack
pub mod TakenAccepted
pub mod OutputKinds
pub mod MachineBytesBack
