-- What a fixup leaves: a reference or nothing.
pub mod LeftReference
