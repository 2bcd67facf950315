-- The lines of a position: its names of the best grade, in byte order.
pub mod Bests
pub mod BestLaws
pub mod RowsAt
pub mod RowsAtLaws
pub mod RowLines
pub mod KnownLaws
pub mod ApartLaws
pub mod PositionLines
pub mod FinishLaws
