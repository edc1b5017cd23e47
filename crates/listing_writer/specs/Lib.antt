pub mod Prints
pub mod Places
pub mod PrintLaws
pub mod Runs
