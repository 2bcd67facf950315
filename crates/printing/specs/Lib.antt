-- Printing: the printed list in a lent buffer; each file of laws stands behind its definitions.
pub mod PrintedText
pub mod Pieces
pub mod StoreLaws
pub mod PieceLaws
pub mod PutLaws
pub mod PrintedTextLaws
pub mod OneOutcome
