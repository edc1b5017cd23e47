pub mod Modes
pub mod ModesOverLists
