pub mod Bindings
pub mod Answers
pub mod Lent
