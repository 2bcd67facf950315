-- Symbols are placed.
pub mod PlacedSymbols
pub mod PlacedSymbolLaws
