pub mod CollectLaws
pub mod MaskLaws
pub mod OneOutcome
pub mod PlacedReadLaws
pub mod PlacedRowLaws
pub mod RefuseLaws
pub mod SegmentLayoutLaws
pub mod SegmentRowLaws
