pub mod Plans
pub mod Lent
