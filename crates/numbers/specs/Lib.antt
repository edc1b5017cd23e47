pub mod Lists
pub mod ListLaws
pub mod RangeLaws
pub mod Values
pub mod ValueLaws
pub mod Multiples
pub mod MultipleLaws
