-- The instructions by their opcodes: lengths, and where they lead; the file of laws stands behind the definitions.
pub mod Lengths
pub mod Leads
pub mod OpcodeLaws
pub mod OneOutcome
