-- A match checked to a depth.
pub mod Depths
pub mod StoredLaws
pub mod ToldLaws
pub mod DeepLaws
pub mod OneOutcome
