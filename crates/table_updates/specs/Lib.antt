pub mod Applied
pub mod Firing
