pub mod Locates
