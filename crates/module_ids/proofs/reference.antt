pub mod LeftReferenceLaws
pub mod OneOutcome
