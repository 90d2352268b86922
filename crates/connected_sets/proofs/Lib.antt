pub mod Joins
pub mod Theorem
pub mod Weights
pub mod Samples
