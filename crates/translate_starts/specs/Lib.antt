pub mod Starts
pub mod StartsOverLists
