pub mod Kinds
pub mod Format
pub mod Refusals
pub mod Events
pub mod Run
pub mod Laws
pub mod Walk
pub mod Walks
