-- The definitions that the contracts of present_set cite.
pub mod Held
pub mod Present
