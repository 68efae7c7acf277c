-- Joining: when an element joins elements for the positive condition elements before its own.
use Rattle.std.specs.Prelude.{◌≡◌, ℕ, ◌<◌, List, [], ◌∷◌, ◌++◌, Bool, true, false, ◌&&◌, ◌==◌, nat_le, length, map}
use Rattle.std.specs.List.{AllByRecursion, list_all, list_any}
use Rattle.rule_base.specs.declared.value.Value.{Value}
use Rattle.rule_base.specs.declared.element.Element.{Element}
use Rattle.rule_base.specs.Value.{same_value}
use Rattle.rule_base.specs.Predicate.{holds, is_equality}
use Rattle.join_tests.specs.declared.joins.LoneTest.{LoneTest}
use Rattle.join_tests.specs.declared.joins.LoneTest.TheVariants.{Constant, OneOf, Within}
use Rattle.join_tests.specs.declared.joins.Pattern.{Pattern}
use Rattle.join_tests.specs.declared.joins.KeyPart.{KeyPart}
use Rattle.join_tests.specs.declared.joins.JoinTest.{JoinTest}
use Rattle.join_tests.specs.declared.joins.Join.{Join}
use Rattle.join_tests.specs.Reading.{value_at, value_in}

-- whether a test of the element alone holds
abbrev pub lone_holds : Element → LoneTest → Bool
lone_holds e (Constant attribute predicate value) = holds predicate (value_at e attribute) value
lone_holds e (OneOf attribute among) = list_any (same_value (value_at e attribute)) among
lone_holds e (Within attribute predicate other) = holds predicate (value_at e attribute) (value_at e other)

-- whether the element is of the class and has as many values as are asked for
abbrev pub fits : Pattern → Element → Bool
fits pattern e = (pattern.class == e.class) && nat_le pattern.size (length e.values)

-- whether it fits, and passes the tests of it alone
abbrev pub passes : Pattern → Element → Bool
passes pattern e = fits pattern e && list_all (lone_holds e) pattern.tests

-- the values that an element brings to a key
abbrev pub key_of_element : List KeyPart → Element → List Value
key_of_element key e = map (λ (part : KeyPart). value_at e part.attribute) key

-- the values that elements ask for in a key
abbrev pub key_of_row : List KeyPart → List Element → List Value
key_of_row key es = map (λ (part : KeyPart). value_in es part.source) key

-- whether the element has the same value as the elements before it for each part of the key
abbrev pub same_key : List KeyPart → List Element → Element → Bool
same_key key es e = list_all (λ (part : KeyPart). same_value (value_at e part.attribute) (value_in es part.source)) key

-- whether all comparisons with the elements before it hold
abbrev pub tests_hold : List JoinTest → List Element → Element → Bool
tests_hold tests es e = list_all (λ (t : JoinTest). holds t.predicate (value_at e t.attribute) (value_in es t.source)) tests

-- a comparison with elements for so many condition elements that is no equality
abbrev pub IsOther : ℕ → JoinTest → Type 0
IsOther number t = (t.source.condition < number) × (is_equality t.predicate ≡ false)

-- the join looks back at the elements for so many condition elements, and every equality with them is a part of its key
pub record LooksBack (number : ℕ) (join : Join) : Type 0 where
  pub key : AllByRecursion (λ (part : KeyPart). part.source.condition < number) join.key
  pub tests : AllByRecursion (IsOther number) join.tests

-- whether the element joins these
abbrev pub joins : Join → List Element → Element → Bool
joins join es e = passes join.pattern e && same_key join.key es e && tests_hold join.tests es e

-- whether each of the last elements joins all before it, the first of which are given apart
abbrev pub each_joins : List Element → List Join → List Element → Bool
each_joins before [] [] = true
each_joins before [] (e ∷ es) = false
each_joins before (join ∷ rest) [] = false
each_joins before (join ∷ rest) (e ∷ es) = joins join before e && each_joins (before ++ e ∷ []) rest es

-- whether there is an element for each of the joins, and each joins those before it
abbrev pub are_joined : List Join → List Element → Bool
are_joined all es = each_joins [] all es
