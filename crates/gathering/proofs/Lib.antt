pub mod Ends
pub mod Stamps
pub mod Counts
pub mod Notes
pub mod Collects
pub mod Arranges
pub mod Groups
pub mod Gatherers
