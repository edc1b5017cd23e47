pub mod ModeAnswers
