-- The tables of a module, in which its contents and public definitions are linked by id.
pub mod Indexed
pub mod IndexedTables
pub mod IndexedTableLaws
pub mod OneOutcome
pub mod gather
pub mod owner
