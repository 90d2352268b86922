pub mod Filled
pub mod Lent
