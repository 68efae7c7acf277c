-- what footprints add to the words of their locks
pub mod AmountLemmas
-- one element taken out of a list
pub mod RemoveLemmas
-- the claims that stand, with their words
pub mod StandingLemmas
