-- Descriptions of names: what they say, and what the code's tables spell and write; each file of laws stands behind its definitions.
pub mod Describe
pub mod Described
pub mod WordLaws
pub mod SpokenLaws
pub mod DescribedLaws
pub mod OneOutcome
