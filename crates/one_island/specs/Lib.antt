pub mod Island
pub mod Views
