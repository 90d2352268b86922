pub mod Promised
pub mod Passing
pub mod Walks
pub mod Samples
