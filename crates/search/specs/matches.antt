-- The matches of a pattern, one after another, along the links of an image's bytes.
pub mod Cursor
pub mod CursorLaws
pub mod StepLaws
pub mod OneOutcome
