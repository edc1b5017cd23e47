pub mod At
pub mod Bits
pub mod Places
pub mod Clauses
