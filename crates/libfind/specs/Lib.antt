-- The entry point: how its steps make up the run.
pub mod Begin
pub mod BeginLaws
pub mod Ends
pub mod EndLaws
pub mod FindingLaws
pub mod FoundLaws
pub mod SingleLaws
pub mod FlowLaws
pub mod StageNumbers
pub mod OneOutcome
