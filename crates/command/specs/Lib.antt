-- The words of the command line, and the settings that they ask for.
pub mod Words
pub mod Numbers
pub mod NumberLaws
pub mod Values
pub mod Stretches
pub mod StretchLaws
pub mod Options
pub mod SettingsOf
pub mod DepthLaws
pub mod Arguments
pub mod ArgumentLaws
pub mod Examples
pub mod OneOutcome
