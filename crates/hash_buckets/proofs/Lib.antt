-- the last place that passes a test
pub mod PlaceLemmas
-- a new link
pub mod LinkLemmas
-- the numbers of one hash, newest first
pub mod BucketLemmas
-- one link is unlinked, in the midst of a walk
pub mod CutLemmas
-- a bucket is cleaned
pub mod CleanLemmas
