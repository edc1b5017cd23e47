pub mod Shown
pub mod ShownLaws
pub mod Parts
pub mod Rules
pub mod Translate
pub mod GoodParts
pub mod GoodRules
pub mod GoodStarts
