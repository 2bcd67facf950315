-- Refusals 10 to 13 by what an id leads to.
pub mod Faults
pub mod Scan
