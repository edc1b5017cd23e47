pub mod Bounds
pub mod Loops
pub mod Noted
pub mod Chains
