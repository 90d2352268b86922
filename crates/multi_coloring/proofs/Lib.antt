pub mod Questions
pub mod Accepted
pub mod Updates
pub mod Lookups
pub mod Compared
