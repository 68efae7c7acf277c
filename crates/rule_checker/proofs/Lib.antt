-- walks that are exact
pub mod NumberLemmas
pub mod WalkLemmas
pub mod ExpressionLemmas
pub mod FormLemmas
-- what is checked is sound
pub mod ResultLemmas
pub mod ListLemmas
pub mod ScopeLemmas
pub mod TestLemmas
pub mod ClassLemmas
pub mod LeftSideLemmas
pub mod TermLemmas
pub mod RightSideLemmas
pub mod CheckedLemmas
pub mod MakeLemmas
pub mod DeclaredLemmas
pub mod ViolationLemmas
pub mod OpeningLemmas
pub mod KindLemmas
-- what is checked means what is written
pub mod NamedLemmas
pub mod WrittenTestLemmas
pub mod WrittenConditionLemmas
pub mod LaterClassLemmas
pub mod WrittenRuleLemmas
pub mod WrittenMatchLemmas
pub mod WrittenTermLemmas
pub mod DesignatorLemmas
pub mod WrittenEffectLemmas
pub mod WrittenLemmas
pub mod WrittenMakeLemmas
pub mod WrittenFiringLemmas
