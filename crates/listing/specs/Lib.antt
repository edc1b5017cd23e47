pub mod Listing
pub mod Lines
pub mod LineLaws
pub mod RunLaws
pub mod Programs
pub mod Outcomes
pub mod Parts
