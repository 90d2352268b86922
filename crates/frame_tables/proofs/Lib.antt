pub mod Labels
pub mod Tables
