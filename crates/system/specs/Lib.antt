-- What the contracts on the system cite.
pub mod Counts
