-- what the public calls promise
pub mod CoreState
pub mod Store
pub mod PinnedKeys
pub mod Grouped
pub mod Refusals
pub mod Events
pub mod Grants
pub mod Clear
pub mod Answers
pub mod Halls
pub mod Lawful
pub mod FinishedRun
-- laws of events
pub mod CoreLaws
-- what the core's functions promise each other
pub mod Matching
pub mod Unfired
pub mod FiredChoices
pub mod Firing
pub mod Kept
pub mod CoreFields
pub mod GrantFields
-- worked examples of events
pub mod Examples
