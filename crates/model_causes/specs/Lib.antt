pub mod Readings
pub mod Searches
pub mod Fits
