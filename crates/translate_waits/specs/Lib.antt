pub mod Named
pub mod NamedOverLists
pub mod Waits
pub mod WaitsOverLists
