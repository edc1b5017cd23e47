pub mod Counts
pub mod Added
pub mod Cleared
