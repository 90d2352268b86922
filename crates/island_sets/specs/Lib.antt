pub mod Sets
pub mod Steps
pub mod Kept
