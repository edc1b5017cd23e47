pub mod Bodies
pub mod BodiesOverLists
pub mod Deactivates
pub mod DeactivatesOverLists
