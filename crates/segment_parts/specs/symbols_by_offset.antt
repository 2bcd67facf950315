-- The public definitions of id 0 by their offsets.
pub mod Flags
pub mod LinkLaws
pub mod FlagLaws
pub mod Inside
pub mod InsideLaws
pub mod OneOutcome
