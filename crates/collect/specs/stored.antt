-- Segments stored in lent memory.
pub mod Rows
pub mod RowLaws
pub mod Stores
pub mod StoreLaws
pub mod Progress
pub mod ProgressLaws
pub mod RegionLaws
pub mod Segments
pub mod SegmentLaws
pub mod OneOutcome
