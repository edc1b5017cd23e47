pub mod Named
pub mod NamedLaws
pub mod Operands
pub mod Guards
pub mod GuardsOverLists
