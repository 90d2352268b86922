pub mod Answers
pub mod Calls
pub mod Lent
pub mod Steps
