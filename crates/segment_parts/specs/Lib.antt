-- What the contents and the public definitions of an id leave in lent memory.
pub mod AddedReferences
pub mod AddedReferenceLaws
pub mod SectionLaws
pub mod Along
pub mod AlongLaws
pub mod Patterns
pub mod PatternLaws
pub mod AddedSymbols
pub mod AddedSymbolLaws
pub mod merge
pub mod symbols_by_offset
pub mod OneOutcome
