pub mod Condition
pub mod Lanes
pub mod Entry
pub mod Ends
pub mod Frames
pub mod Runs
