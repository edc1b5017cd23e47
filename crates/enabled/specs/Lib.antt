pub mod Enabled
pub mod Told
pub mod ToldLaws
