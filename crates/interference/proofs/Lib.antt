-- lists and options
pub mod ListLemmas
pub mod OptionLemmas
-- demands and modes
pub mod ModeLemmas
-- bindings, and what elements give
pub mod BindingLemmas
pub mod GivenLemmas
pub mod WalkLemmas
pub mod PinLemmas
pub mod RegionLemmas
pub mod ChangeLemmas
pub mod MatchedLemmas
pub mod DemandLemmas
pub mod UndisturbedLemmas
-- the code
pub mod FindingLemmas
pub mod SplitLemmas
pub mod DemandCodeLemmas
pub mod RuleLemmas
pub mod LockLemmas
pub mod WordLemmas
pub mod ClashLemmas
