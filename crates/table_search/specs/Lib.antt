pub mod Enabled
pub mod FindListed
