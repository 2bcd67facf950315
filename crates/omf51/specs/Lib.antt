-- Reading the library, in reading order: readers, records, entries, modules, the file; then place by place.
pub mod Reader
pub mod Record
pub mod Entry
pub mod Module
pub mod File
pub mod Expected
pub mod Ends
pub mod Reaches
