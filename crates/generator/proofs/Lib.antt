pub mod Calls
pub mod Draws
pub mod Loops
pub mod Whole
pub mod Lifts
