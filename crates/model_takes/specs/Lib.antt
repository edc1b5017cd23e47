pub mod Took
pub mod Taken
pub mod Rooms
