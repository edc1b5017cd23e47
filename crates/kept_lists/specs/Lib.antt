pub mod Arrays
pub mod Plain
pub mod Back
pub mod Steps
pub mod Kept
pub mod WholeModel
pub mod ReadBack
