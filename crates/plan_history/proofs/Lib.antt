pub mod Memory
pub mod Held
pub mod History
