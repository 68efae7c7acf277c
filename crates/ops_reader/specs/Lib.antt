-- which tokens spell which forms
pub mod Phrase
pub mod Values
pub mod Conditions
pub mod FormTree
pub mod Actions
pub mod Grammar
pub mod LeftOut
pub mod Refusal
pub mod Named
pub mod Shape
-- what reading makes of one more token
pub mod Taken
pub mod TestReading
pub mod CondReading
pub mod ExpressionReading
pub mod TermReading
pub mod ItemReading
pub mod ActionReading
pub mod FormReading
pub mod Reading
pub mod Slot
pub mod Kind
pub mod Outcome
-- laws
pub mod Exact
pub mod Decided
pub mod FormRows
pub mod RuleRows
