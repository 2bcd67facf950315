-- The matches of the stored segments are gone over, one after another.
pub mod Visits
pub mod VisitLaws
pub mod VisitsLeft
pub mod VisitsLeftLaws
pub mod SegmentLaws
