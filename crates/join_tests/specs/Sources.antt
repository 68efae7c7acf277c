-- Sources: where the variables of a rule have their values, by the variables' numbers.
use Rattle.std.specs.Prelude.{ℕ, ◌<◌, List, Option, Some, None, fold, map, option_map, replicate, slice_get, slice_set}
use Rattle.std.specs.List.{AllByRecursion}
use Rattle.std.specs.Option.{option_flatten}
use Rattle.rule_base.specs.declared.element.Element.{Element}
use Rattle.rule_base.specs.declared.condition.Test.{Test}
use Rattle.rule_base.specs.declared.condition.Test.TheVariants.{Bind, Cmp, OneOf}
use Rattle.rule_base.specs.Bindings.{Bindings}
use Rattle.join_tests.specs.declared.joins.Source.{Source}
use Rattle.join_tests.specs.Reading.{value_in}

abbrev pub Sources : Type 0
Sources = List (Option Source)

-- none of so many variables has a source
abbrev pub no_sources : ℕ → Sources
no_sources vars = replicate vars None

-- the variable's source, if it has one
abbrev pub source_of : Sources → ℕ → Option Source
source_of sources var = option_flatten (slice_get sources var)

-- the source lies in the elements for so many condition elements, if there is one
abbrev pub IsWithin : ℕ → Option Source → Type 0
IsWithin number None = Unit {0}
IsWithin number (Some source) = source.condition < number

-- each source does
abbrev pub AreWithin : ℕ → Sources → Type 0
AreWithin number sources = AllByRecursion (IsWithin number) sources

-- the sources after a test of the positive condition element with this number, or of a negated one before it
abbrev pub sources_after_test : ℕ → Sources → Test → Sources
sources_after_test number sources (Bind attr var) = slice_set sources var (Some (record { condition = number; attribute = attr }))
sources_after_test number sources (Cmp attr pred arg) = sources
sources_after_test number sources (OneOf attr among) = sources

-- the sources after tests from left to right
abbrev pub sources_after_tests : ℕ → Sources → List Test → Sources
sources_after_tests number sources tests = fold (sources_after_test number) sources tests

-- the bindings of variables to the values that lie at their sources
abbrev pub bindings_at : Sources → List Element → Bindings
bindings_at sources es = map (option_map (value_in es)) sources
