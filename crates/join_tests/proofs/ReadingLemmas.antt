-- Values where they lie: in one more element, and as bindings.
use Rattle.std.proofs.Common.{◌≡◌, ℕ, ◌+◌, ◌<◌, List, [], ◌∷◌, ◌++◌, Some, None, length, is_some, nat_lt, option_map, slice_get, slice_set, suc, zero, refl, ◌∙◌, ap, arith}
use Rattle.std.specs.Option.{option_map_or}
use Rattle.std.proofs.lemmas.Bool.Decides.{nat_tests}
use Rattle.std.proofs.lemmas.List.{map-set}
use Rattle.rule_base.specs.declared.value.Value.{Value}
use Rattle.rule_base.specs.declared.element.Element.{Element}
use Rattle.rule_base.specs.declared.condition.Test.{Test}
use Rattle.rule_base.specs.declared.condition.Test.TheVariants.{Bind, Cmp, OneOf}
use Rattle.rule_base.specs.Value.{nil}
use Rattle.rule_base.specs.Bindings.{binding_of, bound, no_bindings}
use Rattle.join_tests.specs.declared.joins.Source.{Source}
use Rattle.join_tests.specs.Reading.{value_at, value_in}
use Rattle.join_tests.specs.Sources.{AreWithin, IsWithin, Sources, bindings_at, no_sources, source_of, sources_after_test, sources_after_tests}

-- a list has an element at each place below its length
pub lt_is_some : (values : List Value) (at : ℕ) → nat_lt at (length values) ≡ is_some (slice_get values at)
lt_is_some [] at = grind (arith, nat_tests)
lt_is_some (v ∷ values) zero = grind (arith, nat_tests)
lt_is_some (v ∷ values) (suc at) = grind (arith, nat_tests, lt_is_some values at)

-- what is added at the end stands there
pub slice_get-last : (es : List Element) (e : Element) → slice_get (es ++ e ∷ []) (length es) ≡ Some e
slice_get-last [] e = refl
slice_get-last (x ∷ es) e = slice_get-last es e

-- the value at a source in the last element
pub value_in-last : (es : List Element) (e : Element) (attribute : ℕ) → value_in (es ++ e ∷ []) (record { condition = length es; attribute = attribute }) ≡ value_at e attribute
value_in-last es e attribute = ap (λ o. option_map_or (λ (x : Element). value_at x attribute) o nil) (slice_get-last es e)

-- the binding of a variable is the value at its source
pub binding_of-at : (sources : Sources) (es : List Element) (var : ℕ) → binding_of (bindings_at sources es) var ≡ option_map (value_in es) (source_of sources var)
binding_of-at [] es var = refl
binding_of-at (s ∷ sources) es zero = refl
binding_of-at (s ∷ sources) es (suc var) = binding_of-at sources es var

-- a variable bound to the value at its new source
pub bindings_at-bound : (sources : Sources) (es : List Element) (var : ℕ) (source : Source) → bindings_at (slice_set sources var (Some source)) es ≡ bound (bindings_at sources es) var (value_in es source)
bindings_at-bound sources es var source = map-set (option_map (value_in es)) sources var (Some source)

-- what stood there stays there
slice_get-first : (es more : List Element) (i : ℕ) → i < length es → slice_get (es ++ more) i ≡ slice_get es i
slice_get-first [] more i lt = absurd (omega (arith, lt))
slice_get-first (x ∷ es) more zero lt = refl
slice_get-first (x ∷ es) more (suc i) lt = slice_get-first es more i (omega (arith, lt))

pub value_in-first : (es more : List Element) (source : Source) → source.condition < length es → value_in (es ++ more) source ≡ value_in es source
value_in-first es more source lt = ap (λ o. option_map_or (λ (x : Element). value_at x source.attribute) o nil) (slice_get-first es more source.condition lt)

-- so a further element changes no binding to a source before it
pub bindings_at-push : (sources : Sources) (es : List Element) (e : Element) → AreWithin (length es) sources → bindings_at sources (es ++ e ∷ []) ≡ bindings_at sources es
bindings_at-push [] es e within = refl
bindings_at-push (None ∷ sources) es e within = ap (λ bs. None ∷ bs) (bindings_at-push sources es e within.1)
bindings_at-push (Some source ∷ sources) es e within =
    ap (λ v. Some v ∷ bindings_at sources (es ++ e ∷ [])) (value_in-first es (e ∷ []) source within.0) ∙ ap (λ bs. Some (value_in es source) ∷ bs) (bindings_at-push sources es e within.1)

AreWithin-more : (number : ℕ) (sources : Sources) → AreWithin number sources → AreWithin (number + 1) sources
AreWithin-more number [] within = tt
AreWithin-more number (None ∷ sources) within = (tt, AreWithin-more number sources within.1)
AreWithin-more number (Some source ∷ sources) within = (omega (arith, within.0), AreWithin-more number sources within.1)

AreWithin-set : (number : ℕ) (sources : Sources) (var : ℕ) (source : Source) → source.condition < number → AreWithin number sources → AreWithin number (slice_set sources var (Some source))
AreWithin-set number [] var source lt within = tt
AreWithin-set number (None ∷ sources) zero source lt within = (lt, within.1)
AreWithin-set number (Some s ∷ sources) zero source lt within = (lt, within.1)
AreWithin-set number (None ∷ sources) (suc var) source lt within = (tt, AreWithin-set number sources var source lt within.1)
AreWithin-set number (Some s ∷ sources) (suc var) source lt within = (within.0, AreWithin-set number sources var source lt within.1)

AreWithin-test : (number : ℕ) (sources : Sources) (t : Test) → AreWithin (number + 1) sources → AreWithin (number + 1) (sources_after_test number sources t)
AreWithin-test number sources (Bind attr var) within = AreWithin-set (number + 1) sources var (record { condition = number; attribute = attr }) (omega arith) within
AreWithin-test number sources (Cmp attr pred arg) within = within
AreWithin-test number sources (OneOf attr among) within = within

AreWithin-tests : (number : ℕ) (sources : Sources) (tests : List Test) → AreWithin (number + 1) sources → AreWithin (number + 1) (sources_after_tests number sources tests)
AreWithin-tests number sources [] within = within
AreWithin-tests number sources (t ∷ tests) within = AreWithin-tests number (sources_after_test number sources t) tests (AreWithin-test number sources t within)

-- a condition element's sources lie in its element and those before it
pub AreWithin-after_tests : (number : ℕ) (sources : Sources) (tests : List Test) → AreWithin number sources → AreWithin (number + 1) (sources_after_tests number sources tests)
AreWithin-after_tests number sources tests within = AreWithin-tests number sources tests (AreWithin-more number sources within)

-- no sources at all
pub AreWithin-none : (vars : ℕ) → AreWithin 0 (no_sources vars)
AreWithin-none zero = tt
AreWithin-none (suc vars) = (tt, AreWithin-none vars)

pub bindings_at-none : (vars : ℕ) → bindings_at (no_sources vars) [] ≡ no_bindings vars
bindings_at-none zero = refl
bindings_at-none (suc vars) = ap (λ bs. None ∷ bs) (bindings_at-none vars)

pub IsWithin-source_of : (number : ℕ) (sources : Sources) (var : ℕ) → AreWithin number sources → IsWithin number (source_of sources var)
IsWithin-source_of number [] var within = tt
IsWithin-source_of number (s ∷ sources) zero within = within.0
IsWithin-source_of number (s ∷ sources) (suc var) within = IsWithin-source_of number sources var within.1
