-- memories of elements that came, and choices that match in them
pub mod FoundLemmas
-- choices that are fired
pub mod FiredLemmas
-- rows that are free, as elements come and go
pub mod FreeLemmas
-- what is left to fire
pub mod LeftLemmas
-- how a part goes on following
pub mod FollowingLemmas
pub mod ArrivalLemmas
-- elements before a tag
pub mod BornLemmas
-- how a part that is made anew comes to follow
pub mod FeedingLemmas
-- what comes next, and how a firing is followed
pub mod TurnLemmas
pub mod FireLemmas
-- runs turn by turn
pub mod FinishingLemmas
-- what a part takes in of a firing
pub mod TakingLemmas
