pub mod FieldTests
pub mod ReadingOn
