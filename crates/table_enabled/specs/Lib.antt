pub mod EnabledBy
pub mod Walk
pub mod Telling
pub mod ByIndex
pub mod Taken
