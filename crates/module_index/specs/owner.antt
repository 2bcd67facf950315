-- The kept segment that gets the contents of an id.
pub mod Owned
pub mod OneOutcome
