pub mod Islands
pub mod Views
