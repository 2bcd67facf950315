-- The three kinds of reference and the targets to which they lead.
pub mod Target
