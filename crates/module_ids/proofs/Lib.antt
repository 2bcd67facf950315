pub mod ClearLaws
pub mod IdRowLaws
pub mod NotedLaws
pub mod OneOutcome
