-- The definitions that the contracts and theorems of writing cite.
pub mod Writing
pub mod Written
pub mod Sets
pub mod Order
