-- The search of an image for the segments that are stored in lent memory: what it comes to, and its laws.
pub mod Fills
pub mod FillLaws
pub mod Outcome
pub mod EndLaws
pub mod OneOutcome
pub mod Store
pub mod byte_index
pub mod depth
pub mod failed
pub mod matches
pub mod note
pub mod place
pub mod targets
pub mod told
pub mod visit
