pub mod Tests
pub mod Numbers
pub mod Written
pub mod Samples
pub mod Fields
