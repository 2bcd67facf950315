-- The segments of one module: its kept segments, and then its absolute contents.
pub mod Parts
pub mod PartLaws
