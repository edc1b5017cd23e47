pub mod View
pub mod Laws
pub mod Shown
