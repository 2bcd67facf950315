-- Names noted at or past the image's end; each file of laws stands behind its definitions.
pub mod SortLaws
pub mod Beyond
pub mod BoundLaws
pub mod BucketLaws
pub mod WriteLaws
pub mod WalkLaws
pub mod TargetLaws
pub mod BeyondLaws
