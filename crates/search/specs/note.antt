-- Names are noted, and the references of a match gone over.
pub mod NotedNames
pub mod NotedNameLaws
pub mod ReferLaws
