-- The absolute contents of a module.
pub mod Absolute
pub mod AbsoluteLaws
