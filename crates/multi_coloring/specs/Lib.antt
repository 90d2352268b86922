pub mod Counts
pub mod Calls
