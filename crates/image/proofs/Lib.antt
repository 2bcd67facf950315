pub mod CoverLaws
pub mod GatherLaws
pub mod MatchLaws
pub mod NextLaws
pub mod OneOutcome
pub mod ViewLaws
pub mod ViewMatchLaws
pub mod WindowLaws
