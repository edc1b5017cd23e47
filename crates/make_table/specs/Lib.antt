pub mod Makes
pub mod MakeLaws
