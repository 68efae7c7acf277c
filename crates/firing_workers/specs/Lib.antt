-- what it is for a part to follow a state
pub mod Following
pub mod FollowingLaws
-- how one that is made anew comes to
pub mod Feeding
-- what comes next in a run
pub mod Turn
