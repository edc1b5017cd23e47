pub mod Rules
pub mod Machine
pub mod Runs
pub mod Choices
