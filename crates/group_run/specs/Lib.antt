pub mod Appends
pub mod Views
pub mod ByValue
