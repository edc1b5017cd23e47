pub mod OperandLaws
pub mod OpenLaws
