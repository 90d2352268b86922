pub mod Coloring
pub mod Steps
