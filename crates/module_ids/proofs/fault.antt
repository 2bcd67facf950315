pub mod FaultLaws
pub mod OneOutcome
pub mod ScanLaws
