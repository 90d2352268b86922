pub mod Runs
pub mod Condition
pub mod Lanes
pub mod Labels
pub mod Print
pub mod Samples
