-- The segments of all modules of a library.
pub mod Modules
pub mod FewLaws
pub mod All
pub mod AllLaws
