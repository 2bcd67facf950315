-- The index of an image's bytes, and the anchor of a pattern: the byte whose links are followed.
pub mod Index
pub mod IndexLaws
pub mod Anchor
pub mod OneOutcome
