-- Tables in lent memory: rows put until there is no room, tables of zeros, places of one key by links, rows found by key and name.
pub mod by_name
pub mod fill
pub mod links
pub mod zeros
