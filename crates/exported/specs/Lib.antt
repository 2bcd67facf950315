-- What the exported functions give their callers: plain numbers.
pub mod Exported
pub mod ExportedLaws
pub mod Demands
pub mod OneOutcome
