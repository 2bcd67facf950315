-- Boards with switched banks: what the code comes to, and what is proved of a run on one.
pub mod ShowLaws
pub mod Turns
pub mod FoundLaws
pub mod TurnLaws
pub mod BoardLaws
pub mod EntryLaws
pub mod Exactly
pub mod ListedBanks
pub mod Demands
pub mod OneOutcome
