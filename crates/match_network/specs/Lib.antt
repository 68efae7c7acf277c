-- rows of places, and which of them are partial matches
pub mod Row
-- the rows that a place makes, and the levels that hold them
pub mod Woven
pub mod Levels
-- what weaving gives, as laws
pub mod Laws
-- rows of one width in one list
pub mod RowTable
-- the elements that came, and the places in working memory
pub mod Arrivals
-- what is filed under the hashes of keys
pub mod Filed
pub mod SoFar
pub mod Joining
-- the levels of a rule
pub mod Conditions
pub mod FilingLaws
-- what is tried and counted
pub mod Tried
-- all rules
pub mod Rules
-- what stands in the way of a row
pub mod Negated
-- what an element that came has touched
pub mod Touched
-- packing, and how much is held
pub mod Packing
pub mod Held
pub mod Network
-- how much work one element makes
pub mod JoinWork
-- worked examples
pub mod Examples
-- the full matches of a rule, and of all rules
pub mod Full
pub mod Told
