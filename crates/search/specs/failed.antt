-- Which reference of a match fails first.
pub mod Failures
pub mod FailureLaws
pub mod OneOutcome
