-- The collection: what it comes to, and the laws of its parts.
pub mod Outcome
pub mod Concluded
pub mod OutcomeLaws
pub mod EndLaws
pub mod Sizes
pub mod ZeroLaws
pub mod RecalledLaws
pub mod OneOutcome
pub mod absolute
pub mod all_modules
pub mod kept
pub mod one_module
pub mod stored
