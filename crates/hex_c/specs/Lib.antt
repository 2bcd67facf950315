-- The exported functions for Intel HEX: what they hand over, and that it is fixed.
pub mod Exported
pub mod ExportedLaws
pub mod OneOutcome
