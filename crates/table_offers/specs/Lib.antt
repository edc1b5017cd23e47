pub mod Adds
pub mod Order
pub mod Inserted
pub mod OneMore
