-- A walk of a routine; each file of laws stands behind its definitions.
pub mod Step
pub mod Walk
pub mod Outcome
pub mod Direct
