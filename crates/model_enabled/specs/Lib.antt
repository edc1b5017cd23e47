pub mod Walks
pub mod Takes
pub mod Counts
