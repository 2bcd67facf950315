-- The kept segments of a module.
pub mod Kept
pub mod KeptLaws
