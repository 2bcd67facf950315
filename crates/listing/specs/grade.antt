-- Grades of placed symbols: what the code asks of the rows, and that it is what the definition asks.
pub mod Grades
pub mod GradeLaws
pub mod SoughtLaws
pub mod OneOutcome
