pub mod Draws
pub mod Calls
pub mod Lifts
