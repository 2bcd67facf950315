-- What the check remembers.
pub mod Answers
pub mod AnswerLaws
pub mod OneOutcome
