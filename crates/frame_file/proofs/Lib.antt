pub mod Decoded
pub mod Whole
