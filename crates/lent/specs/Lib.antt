-- What the stages share, in reading order; each file of laws stands behind its definitions.
pub mod Choice
pub mod ChoiceLaws
pub mod FirstOf
pub mod Lists
pub mod ListLaws
pub mod RunLaws
pub mod Members
pub mod Parts
pub mod PartLaws
pub mod Refusals
pub mod RefusalLaws
pub mod Rows
pub mod RowLaws
pub mod OneOutcome
pub mod RowOutcomes
pub mod NameOutcomes
