pub mod DepthLaws
pub mod FailedLaws
pub mod FindableLaws
pub mod NotedLaws
pub mod OneOutcome
pub mod SearchLaws
pub mod SearchLayoutLaws
pub mod SearchRowLaws
