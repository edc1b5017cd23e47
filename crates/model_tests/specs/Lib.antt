pub mod Parts
pub mod Jobs
pub mod Rooms
pub mod JobLaws
pub mod TestLaws
