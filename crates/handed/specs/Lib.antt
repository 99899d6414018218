-- The definitions that the contracts and laws of handed cite.
pub mod Handed
pub mod Passes
pub mod OnceOver
