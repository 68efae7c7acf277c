-- rows of one place more, and rows of elements that came
pub mod RowLemmas
pub mod ComeLemmas
-- what a weave makes, and what it leaves of levels
pub mod WeaveLemmas
pub mod LevelLemmas
-- rows of one width in one list
pub mod TableLemmas
-- tags that rise
pub mod TagLemmas
-- levels while rows are added, and what their buckets hold
pub mod SoFarLemmas
pub mod FiledLemmas
-- stores that are cleaned
pub mod StoreLemmas
-- the levels of a rule, by their numbers
pub mod ConditionLemmas
pub mod GivenLemmas
pub mod WayLemmas
-- what is filed as elements come and go
pub mod FilingLemmas
-- levels with no rows
pub mod StartLemmas
pub mod TriedLemmas
-- how much is tried, told by the partial matches
pub mod SumLemmas
pub mod MatchLemmas
pub mod WorkLemmas
-- all rules
pub mod AskerLemmas
pub mod RuleLemmas
pub mod NegatedLemmas
pub mod BlockLemmas
pub mod SetLemmas
pub mod DueLemmas
pub mod TouchedLemmas
pub mod TakeLemmas
pub mod PassedLemmas
pub mod StopLemmas
pub mod SetChangeLemmas
pub mod DueWorkLemmas
-- full matches
pub mod FullLemmas
pub mod TellLemmas
-- what packing leaves
pub mod PackingLemmas
pub mod HeldLemmas
