pub mod Kinds
pub mod Reachable
pub mod Moves
pub mod Kept
pub mod Clock
pub mod Holder
pub mod OneMode
pub mod Leaving
