-- The definitions that the theorems of agreement cite.
pub mod Agrees
pub mod Needed
pub mod Kinds
pub mod Loaded
