-- Going over a whole module again: its next definition, its next content, a content's next fixup.
pub mod Walk
pub mod WalkLaws
pub mod Items
pub mod ItemLaws
pub mod Contents
pub mod ContentLaws
pub mod Left
pub mod EnterLaws
pub mod LeftLaws
pub mod Yields
pub mod ForwardLaws
pub mod ContentSizeLaws
pub mod EntrySizeLaws
pub mod PublicSizeLaws
pub mod Fewer
pub mod OneOutcome
