pub mod Replaced
pub mod Kept
pub mod Changed
pub mod Stored
pub mod Counted
