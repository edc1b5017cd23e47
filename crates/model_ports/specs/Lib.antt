pub mod Ports
pub mod Sends
