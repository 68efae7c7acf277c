-- how often something is in a list
pub mod TimesLemmas
-- one more number under a hash
pub mod ListingLemmas
-- one store changes, or several
pub mod ChangeLemmas
-- how many places are filed
pub mod CountLemmas
-- which stores are found
pub mod FoundLemmas
-- what leads to a store
pub mod DispatchLemmas
-- what is filed in the stores that are found
pub mod FilingLemmas
-- one more store
pub mod DispatchedLemmas
-- for those who use stores: which store serves, and how often a place is filed
pub mod ServesLemmas
pub mod EntryLemmas
