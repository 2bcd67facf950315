pub mod AddressLaws
pub mod OneOutcome
pub mod TargetLaws
