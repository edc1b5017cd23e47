pub mod AssignLaws
pub mod AdvanceLaws
