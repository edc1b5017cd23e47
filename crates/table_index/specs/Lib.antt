pub mod Index
pub mod Guards
pub mod IndexLaws
pub mod Listed
