-- Where repetitions, modules and the file end, as the code goes over them.
pub mod Longest
pub mod Gathered
pub mod RepeatLaws
pub mod EndLaws
pub mod BodyLaws
pub mod Passes
pub mod PassLaws
pub mod SectionLaws
pub mod ModuleLaws
pub mod Reading
pub mod WholeLaws
pub mod ReadingLaws
pub mod StandLaws
pub mod LaterLaws
pub mod NumberLaws
pub mod OneOutcome
pub mod items
