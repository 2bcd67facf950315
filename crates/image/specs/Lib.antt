-- The view of an image, and where a masked pattern matches it; each file of laws stands behind its definitions.
pub mod View
pub mod Match
pub mod Window
pub mod Cover
pub mod Next
pub mod fixup
