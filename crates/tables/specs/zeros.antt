-- Tables of zeros, and their laws.
pub mod Zeros
pub mod ZeroLaws
pub mod OneOutcome
