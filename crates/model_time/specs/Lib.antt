pub mod Quiet
pub mod QuietLaws
pub mod CalmLaws
pub mod Answers
pub mod AnswerLaws
pub mod Passing
pub mod TickLaws
pub mod TimeLaws
