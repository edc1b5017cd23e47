pub mod Words
pub mod Passes
pub mod Settled
pub mod SameState
