-- The segments that rows in memory tell of.
pub mod Recall
