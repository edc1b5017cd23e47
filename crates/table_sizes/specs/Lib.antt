pub mod Leaves
pub mod Together
pub mod Told
