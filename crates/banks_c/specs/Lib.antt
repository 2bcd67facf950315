-- The exported function for boards: what it gives its callers, and what is proved of it.
pub mod Exported
pub mod Demands
