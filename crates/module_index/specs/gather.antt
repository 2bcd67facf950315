-- A module's contents and public definitions, gathered by id.
pub mod Places
pub mod Publics
pub mod Into
pub mod GatherLaws
pub mod PublicLaws
pub mod OneOutcome
