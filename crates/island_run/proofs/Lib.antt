pub mod Rooms
pub mod Loop
