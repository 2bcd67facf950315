-- The whole run: its definition, what is proved of it, and document 01's examples.
pub mod Run
pub mod Given
pub mod Own
pub mod Editions
