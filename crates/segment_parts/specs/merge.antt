-- Contents merged into pattern memory.
pub mod MergedAt
pub mod OrLaws
pub mod MergeLaws
pub mod MaskTurns
pub mod OneOutcome
