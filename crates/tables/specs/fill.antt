-- Lent memory that is filled with rows until there is no room.
pub mod FilledRows
pub mod FilledRowLaws
pub mod AddedRowLaws
pub mod OneOutcome
