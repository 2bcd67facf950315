-- Collecting, in reading order: what a module's ids mean, refusals 10 to 13, masks and merging, the segments, and their rows.
pub mod Ids
pub mod Refuse
pub mod Masks
pub mod Collect
pub mod SegmentRows
pub mod SegmentLayouts
pub mod PlacedRows
pub mod recalled
