pub mod ModelWords
pub mod Cut
pub mod Settled
