pub mod Reading
pub mod Steps
pub mod Walked
pub mod Counted
