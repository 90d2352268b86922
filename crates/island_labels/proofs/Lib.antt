pub mod Numbering
pub mod Labelling
