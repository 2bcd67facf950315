-- Boards with switched banks: what a run on one is, and laws about it.
pub mod Banks
pub mod Cut
