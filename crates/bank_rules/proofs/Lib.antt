pub mod CutLaws
pub mod OverLaws
