-- Laws that several proofs cite.
pub mod Rises
pub mod Fills
pub mod Pairs
pub mod Takes
pub mod Positions
