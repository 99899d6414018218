-- The definitions that the contracts of calculation cite.
pub mod Binding
pub mod Results
pub mod Calculating
