-- values where they lie, and bindings to them
pub mod ReadingLemmas
-- what tests become
pub mod PartLemmas
-- what condition elements become
pub mod JoinLemmas
-- what rules become, and what that means
pub mod RuleLemmas
pub mod RowLemmas
pub mod MatchLemmas
pub mod NegatedLemmas
pub mod MeaningLemmas
-- keys
pub mod KeyLemmas
