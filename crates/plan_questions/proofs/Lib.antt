pub mod Questions
pub mod Rooms
pub mod Lookups
