pub mod Memory
pub mod History
