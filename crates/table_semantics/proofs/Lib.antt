pub mod RuleLaws
pub mod MachineLaws
