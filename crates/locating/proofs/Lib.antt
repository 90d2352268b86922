pub mod Places
pub mod Locates
pub mod Settles
