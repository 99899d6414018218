-- The definitions that the contracts of fractions cite.
pub mod Divisor
pub mod Fraction
