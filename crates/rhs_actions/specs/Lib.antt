-- what the public calls promise
pub mod Operators
pub mod Refusals
pub mod EffectViews
pub mod Outcomes
pub mod Fire
-- what lies in fields
pub mod EffectPlaces
pub mod OutcomeFields
-- what the crate's functions promise each other
pub mod Expressions
pub mod Acting
