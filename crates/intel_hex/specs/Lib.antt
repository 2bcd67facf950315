-- Intel HEX: what a text imports as, and what an image exports as; each file of laws stands behind its definitions.
pub mod Outcome
pub mod Digits
pub mod Record
pub mod Import
pub mod Export
pub mod Cells
