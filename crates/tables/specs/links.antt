-- Links between the places of one key, by which these places are gone over.
pub mod First
pub mod FirstLaws
pub mod Things
pub mod ThingLaws
pub mod Index
pub mod IndexLaws
pub mod Follow
pub mod FollowLaws
pub mod LinkedLaws
pub mod OneOutcome
