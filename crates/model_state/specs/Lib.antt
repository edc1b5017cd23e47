pub mod Words
pub mod Parts
pub mod Sections
pub mod StateLaws
pub mod TimeLaws
