pub mod Tables
pub mod Labelling
pub mod Whole
pub mod Refusals
pub mod Built
pub mod Entry
