pub mod Scans
pub mod Sorting
pub mod Collecting
pub mod Among
