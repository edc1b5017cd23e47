pub mod Stops
pub mod Ticking
pub mod Copies
pub mod Ticks
pub mod QuietListed
