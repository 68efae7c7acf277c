-- the program of forms, and the opening memory
pub mod Checked
pub mod Opening
pub mod Declares
pub mod Laws
pub mod Forms
pub mod Outcome
-- the rules, in the order in which a form is walked
pub mod Walk
pub mod Names
pub mod Classes
pub mod Makes
pub mod Scope
pub mod ConditionTests
pub mod LeftSide
pub mod Expressions
pub mod Terms
pub mod RightSide
pub mod Rules
-- what is written, over names and values alone
pub mod NamedBindings
pub mod WrittenTests
pub mod WrittenConditions
pub mod WrittenRules
pub mod WrittenMatch
pub mod WrittenTerms
pub mod Designators
pub mod WrittenEffect
pub mod WrittenFirings
pub mod WrittenMakes
pub mod WrittenLaws
-- what the code keeps
pub mod Kept
-- worked rows
pub mod Meanings
pub mod Rows
