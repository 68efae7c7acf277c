-- Dispatch: what leads from an element to the stores that may let it in.
use Rattle.std.specs.Prelude.{◌≡◌, ℕ, ◌<◌, ◌≤◌, ◌^◌, List, [], ◌∷◌, ◌++◌, Bool, true, false, ◌&&◌, ◌==◌, Option, None, Some, filter, if◌then◌else◌, length, map, max, reverse, slice_get}
use Rattle.std.specs.List.{flat_map}
use Rattle.std.specs.Option.{option_map_or}
use Rattle.rule_base.specs.declared.value.Value.TheVariants.{Sym}
use Rattle.rule_base.specs.declared.element.Element.{Element}
use Rattle.rule_base.specs.Predicate.{is_equality}
use Rattle.hash_buckets.specs.Buckets.{numbers_of}
use Rattle.join_tests.specs.declared.joins.LoneTest.{LoneTest}
use Rattle.join_tests.specs.declared.joins.LoneTest.TheVariants.{Constant, OneOf, Within}
use Rattle.join_tests.specs.declared.joins.Pattern.{Pattern}
use Rattle.join_tests.specs.Reading.{value_at}
use Rattle.join_tests.specs.Hashing.{mixed}
use Rattle.alpha_memory.specs.declared.dispatch.Dispatch.{Dispatch}
use Rattle.alpha_memory.specs.declared.dispatch.Dispatch.TheVariants.{ByClass, ByValue}
use Rattle.alpha_memory.specs.Times.{times}
use Rattle.alpha_memory.specs.Stores.{Store, admits, has_at}

-- what leads to a store with just this test
abbrev pub by_test : LoneTest → Dispatch
by_test (Constant attribute predicate value) = if is_equality predicate then ByValue attribute value else ByClass
by_test (OneOf attribute among) = ByClass
by_test (Within attribute predicate other) = ByClass

-- the first of two that is a value
abbrev pub or_else : Dispatch → Dispatch → Dispatch
or_else ByClass later = later
or_else (ByValue attribute value) later = ByValue attribute value

-- what leads to a store with these tests
abbrev pub dispatch_of : List LoneTest → Dispatch
dispatch_of [] = ByClass
dispatch_of (test ∷ tests) = or_else (by_test test) (dispatch_of tests)

-- the hash under which a store of a class is found
abbrev pub dispatch_hash : ℕ → Dispatch → ℕ
dispatch_hash class ByClass = mixed 0 (Sym class)
dispatch_hash class (ByValue attribute value) = mixed (mixed (mixed 0 (Sym class)) (Sym attribute)) value

-- the hash under which a store with this pattern is found
abbrev pub pattern_hash : Pattern → ℕ
pattern_hash pattern = dispatch_hash pattern.class (dispatch_of pattern.tests)

-- whether a value at this attribute leads to the store, or where there is no attribute, its class alone
abbrev pub is_at : Option ℕ → Dispatch → Bool
is_at None ByClass = true
is_at None (ByValue attribute value) = false
is_at (Some wanted) ByClass = false
is_at (Some wanted) (ByValue attribute value) = attribute == wanted

-- what leads to a store that lets the element in, if a value at this attribute does, or the class alone
abbrev pub dispatch_at : Element → Option ℕ → Dispatch
dispatch_at e None = ByClass
dispatch_at e (Some attribute) = ByValue attribute (value_at e attribute)

-- whether a store that is found at this attribute, or by its class alone, lets the element in
abbrev pub admits_at : Option ℕ → Element → Store → Bool
admits_at attribute e store = is_at attribute (dispatch_of store.pattern.tests) && admits e store

-- the stores among those found at this attribute, or by the class alone, that let the element in
abbrev pub found_at : List Store → List (ℕ × ℕ) → Element → Option ℕ → List ℕ
found_at stores numbers e attribute =
    filter (has_at (admits_at attribute e) stores) (reverse (numbers_of numbers (dispatch_hash e.class (dispatch_at e attribute))))

-- the stores that let the element in, by its class alone and then by its values
abbrev pub found : List Store → List (ℕ × ℕ) → List (ℕ × ℕ) → Element → List ℕ
found stores numbers attributes e =
    found_at stores numbers e None ++ flat_map (λ attribute. found_at stores numbers e (Some attribute)) (reverse (numbers_of attributes e.class))

-- the patterns of stores
abbrev pub patterns_of : List Store → List Pattern
patterns_of stores = map (λ (store : Store). store.pattern) stores

-- how often a number is filed under a hash
abbrev pub how_often : List (ℕ × ℕ) → ℕ → ℕ → ℕ
how_often entries hash number = times (λ n. number == n) (numbers_of entries hash)

-- the attribute that leads to stores with a pattern, if any does, is known for its class
abbrev pub IsListed : List (ℕ × ℕ) → Pattern → Type 0
IsListed attributes pattern =
    (attribute : ℕ) → is_at (Some attribute) (dispatch_of pattern.tests) ≡ true → 0 < how_often attributes pattern.class attribute

-- the attribute that leads to stores of a class, if any does, was listed unless it was there
pub record Lists (class : ℕ) (dispatch : Dispatch) (before after : List (ℕ × ℕ)) : Type 0 where
  pub listed : (attribute : ℕ) → is_at (Some attribute) dispatch ≡ true → 0 < how_often after class attribute
  pub kept : (c a : ℕ) → how_often before c a ≤ how_often after c a
  pub once : (c a : ℕ) → how_often after c a ≤ max 1 (how_often before c a)

-- each store is filed once, under the hash that leads to it
pub record IsDispatched (patterns : List Pattern) (numbers attributes : List (ℕ × ℕ)) : Type 0 where
  pub few : length patterns < 2 ^ 32
  pub filed : (hash number : ℕ) → how_often numbers hash number
      ≡ (if option_map_or (λ pattern. pattern_hash pattern == hash) (slice_get patterns number) false then 1 else 0)
  pub listed : (number : ℕ) (pattern : Pattern) → slice_get patterns number ≡ Some pattern → IsListed attributes pattern
  pub once : (class attribute : ℕ) → how_often attributes class attribute ≤ 1
