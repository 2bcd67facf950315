-- What the ids of a module lead to.
pub mod IdRows
pub mod Noted
pub mod fault
pub mod reference
