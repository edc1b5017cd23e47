pub mod Reads
pub mod Places
pub mod Ranks
pub mod Walk
pub mod Lent
pub mod Accepted
