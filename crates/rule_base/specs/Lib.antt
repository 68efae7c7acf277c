-- values, working memory and bindings
pub mod Chains
pub mod Numbers
pub mod Value
pub mod Cases
pub mod Predicate
pub mod Memory
pub mod Opening
pub mod Views
pub mod Places
pub mod Bindings
-- which instantiations match
pub mod Acceptance
pub mod Match
pub mod ConflictSet
pub mod ElementMatch
-- what a firing does
pub mod Expression
pub mod Compute
pub mod Term
pub mod Effect
-- the recognise-act machine: where it begins, its steps and its endings
pub mod State
pub mod Step
pub mod Run
pub mod Ending
-- the text that a run writes
pub mod Layout
-- which programs are sound
pub mod SoundConditions
pub mod SoundActions
pub mod Sound
-- which candidates fit a program
pub mod Fits
-- what a run may begin from
pub mod Base
-- laws of the match, of runs and of bases
pub mod MatchLaws
pub mod RunLaws
pub mod BaseLaws
-- worked examples of all of these
pub mod Examples
