-- The exported function for walks: what it hands over, and that it is fixed.
pub mod Exported
pub mod ExportedLaws
pub mod OneOutcome
