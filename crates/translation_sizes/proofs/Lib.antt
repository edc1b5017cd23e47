pub mod TableCounts
pub mod GroupCounts
pub mod Total
pub mod Longest
pub mod MadeTable
