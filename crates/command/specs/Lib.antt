pub mod Counts
pub mod Shows
pub mod ShowLaws
