-- Compiling: what a condition element's tests become, and that it asks for the same.
use Rattle.std.specs.Prelude.{◌≡◌, ℕ, ◌<◌, List, [], ◌∷◌, ◌++◌, Bool, true, false, ◌&&◌, nat_lt, length, Option, option_and_then}
use Rattle.std.specs.Option.{option_map_or}
use Rattle.rule_base.specs.declared.element.Element.{Element}
use Rattle.rule_base.specs.declared.condition.Pred.{Pred}
use Rattle.rule_base.specs.declared.condition.Arg.{Arg}
use Rattle.rule_base.specs.declared.condition.Test.{Test}
use Rattle.rule_base.specs.declared.condition.Test.TheVariants as test
use Rattle.rule_base.specs.declared.condition.Cond.{Cond}
use Rattle.rule_base.specs.Chains.{only_if}
use Rattle.rule_base.specs.Predicate.{holds}
use Rattle.rule_base.specs.Acceptance.{accepts, after_test, compared_with}
use Rattle.join_tests.specs.declared.joins.Join.{Join}
use Rattle.join_tests.specs.declared.joins.Joins.{Joins}
use Rattle.join_tests.specs.declared.joins.Source.{Source}
use Rattle.join_tests.specs.declared.compile.Part.{Part}
use Rattle.join_tests.specs.declared.compile.Part.TheVariants.{Nothing, Lone, Equal, Compare}
use Rattle.join_tests.specs.Reading.{value_at, value_in}
use Rattle.join_tests.specs.Joining.{IsOther, LooksBack, joins, lone_holds, same_key, tests_hold}
use Rattle.join_tests.specs.Sources.{AreWithin, Sources, bindings_at, sources_after_test, sources_after_tests}

-- the attribute that a test looks at
abbrev pub attribute_of : Test → ℕ
attribute_of (test.Bind attr var) = attr
attribute_of (test.Cmp attr pred arg) = attr
attribute_of (test.OneOf attr among) = attr

-- whether a part of a join holds of an element and those before it
abbrev pub part_holds : List Element → Element → Part → Bool
part_holds es e Nothing = true
part_holds es e (Lone t) = lone_holds e t
part_holds es e (Equal part) = same_key (part ∷ []) es e
part_holds es e (Compare t) = tests_hold (t ∷ []) es e

-- the part looks back at the elements for so many condition elements, and is no equality outside the key
abbrev pub PartLooksBack : ℕ → Part → Type 0
PartLooksBack number Nothing = Unit {0}
PartLooksBack number (Lone t) = Unit {0}
PartLooksBack number (Equal part) = part.source.condition < number
PartLooksBack number (Compare t) = IsOther number t

-- the part compares the element's value at the attribute with the value at the source, and holds nowhere if there is
-- no source; the element itself has this number
abbrev pub IsComparison : ℕ → ℕ → Pred → Option Source → Part → Type 0
IsComparison number attribute predicate source part = (es : List Element) (e : Element) → length es ≡ number →
    part_holds es e part ≡ option_map_or (λ (s : Source). holds predicate (value_at e attribute) (value_in (es ++ e ∷ []) s)) source false

-- the part compares the element's value at the attribute with a constant, or with the value of a variable
abbrev pub Compares : ℕ → ℕ → Pred → Arg → Sources → Part → Type 0
Compares number attribute predicate arg before part = (es : List Element) (e : Element) → length es ≡ number →
    part_holds es e part ≡ option_map_or (holds predicate (value_at e attribute)) (compared_with arg (bindings_at before (es ++ e ∷ []))) false

-- the part holds where the test does, at an element that has the attribute
abbrev pub IsPart : ℕ → Sources → Test → Part → Type 0
IsPart number before t part = (es : List Element) (e : Element) → length es ≡ number →
    after_test t (bindings_at before (es ++ e ∷ [])) e.values ≡ only_if (nat_lt (attribute_of t) (length e.values) && part_holds es e part) (bindings_at (sources_after_test number before t) (es ++ e ∷ []))

-- the second join asks for what the first does and for the test
abbrev pub AsksMore : ℕ → Sources → Test → Join → Join → Type 0
AsksMore number before t join more = (es : List Element) (e : Element) → length es ≡ number →
    option_and_then (λ given. after_test t given e.values) (only_if (joins join es e) (bindings_at before (es ++ e ∷ []))) ≡ only_if (joins more es e) (bindings_at (sources_after_test number before t) (es ++ e ∷ []))

-- an element joins where the condition element accepts it, under the bindings to what lies at these sources in it and
-- the elements before it, of which there are so many
pub record IsJoin (number : ℕ) (before : Sources) (cond : Cond) (join : Join) : Type 0 where
  pub asks : (es : List Element) (e : Element) → length es ≡ number → accepts cond (bindings_at before (es ++ e ∷ [])) e ≡ only_if (joins join es e) (bindings_at (sources_after_tests number before cond.tests) (es ++ e ∷ []))
  pub looks_back : AreWithin number before → LooksBack number join

-- a condition element of either sign is taken in, with the sources before and after it: what a negated one binds is
-- forgotten
abbrev pub TakesIn : Bool → Cond → Joins → Sources → Joins → Sources → Type 0
TakesIn true cond old before new after =
    (join : Join) × IsJoin (length old.positives) before cond join × (new.positives ≡ old.positives) × (new.negated ≡ old.negated ++ record { after = length old.positives; join = join } ∷ []) × (after ≡ before)
TakesIn false cond old before new after =
    (join : Join) × IsJoin (length old.positives) before cond join × (new.positives ≡ old.positives ++ join ∷ []) × (new.negated ≡ old.negated) × (after ≡ sources_after_tests (length old.positives) before cond.tests)
