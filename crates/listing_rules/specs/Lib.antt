-- The rules of the list: grades and lines, their rows, the printed form; each file of laws stands behind its definitions.
pub mod Listing
pub mod Earlier
pub mod Listed
pub mod LineLayout
pub mod FrontLines
pub mod Print
