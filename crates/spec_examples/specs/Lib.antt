pub mod Evaluate
pub mod Examples
