-- The rules of the search: matches and their references, symbols placed, names noted, and the rows of both.
pub mod Search
pub mod SearchRows
pub mod SearchLayouts
