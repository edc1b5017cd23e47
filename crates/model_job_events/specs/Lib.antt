pub mod JobAnswers
