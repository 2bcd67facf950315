-- The list of the names that a search found: all lines in lent memory, the answer, and what is left.
pub mod Bare
pub mod BareLaws
pub mod Inside
pub mod InsideLaws
pub mod Listed
pub mod ListedLaws
pub mod Outcome
pub mod OutcomeLaws
pub mod Ends
pub mod OneOutcome
pub mod grade
pub mod order
pub mod past_end
pub mod position
