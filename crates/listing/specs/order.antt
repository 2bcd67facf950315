-- Ordering: the lines of a position in byte order of their names; each file of laws stands behind its definitions.
pub mod InOrder
pub mod InsertLaws
pub mod InOrderLaws
pub mod Order
pub mod Passes
pub mod OrderLaws
pub mod RegionLaws
pub mod SinkLaws
pub mod PassLaws
