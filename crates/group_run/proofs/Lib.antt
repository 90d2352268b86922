pub mod Appends
pub mod Takes
pub mod ByValue
