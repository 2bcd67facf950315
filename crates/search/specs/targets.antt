-- The targets of references, and which segments match there.
pub mod Seats
pub mod NowhereLaws
pub mod MatchLaws
pub mod CountLaws
pub mod OneOutcome
