pub mod OneOutcome
pub mod RecallLaws
pub mod RowsLaws
