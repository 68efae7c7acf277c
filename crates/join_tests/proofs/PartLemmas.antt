-- What tests become asks for the same.
use Rattle.std.proofs.Common.{◌≡◌, ℕ, List, [], ◌∷◌, ◌++◌, Bool, true, false, ◌&&◌, Option, Some, None, length, nat_lt, is_some, option_and_then, option_map, slice_get, unwrap_or, refl, sym, ◌∙◌, ap, subst}
use Rattle.std.specs.List.{list_any}
use Rattle.std.specs.Option.{option_map_or}
use Rattle.rule_base.specs.declared.value.Value.{Value}
use Rattle.rule_base.specs.declared.element.Element.{Element}
use Rattle.rule_base.specs.declared.condition.Arg.{Arg}
use Rattle.rule_base.specs.declared.condition.Pred.{Pred}
use Rattle.rule_base.specs.declared.condition.Test.{Test}
use Rattle.rule_base.specs.declared.condition.Test.TheVariants.{Bind, Cmp, OneOf}
use Rattle.rule_base.specs.Chains.{only_if}
use Rattle.rule_base.specs.Value.{nil, same_value}
use Rattle.rule_base.specs.Predicate.{holds}
use Rattle.rule_base.specs.Bindings.{Bindings, bound}
use Rattle.rule_base.specs.Acceptance.{after_test, compared_with}
use Rattle.join_tests.specs.declared.joins.Join.{Join}
use Rattle.join_tests.specs.declared.joins.LoneTest.TheVariants as lone
use Rattle.join_tests.specs.declared.compile.Part.{Part}
use Rattle.join_tests.specs.declared.compile.Part.TheVariants.{Nothing, Lone}
use Rattle.join_tests.specs.Reading.{value_at, value_in}
use Rattle.join_tests.specs.Joining.{joins}
use Rattle.join_tests.specs.Sources.{Sources, bindings_at, sources_after_test}
use Rattle.join_tests.specs.Compiling.{AsksMore, Compares, IsPart, attribute_of, part_holds}
use Rattle.join_tests.proofs.ReadingLemmas.{bindings_at-bound, lt_is_some, value_in-last}

-- a test of a value that is there, and the same test of the value that is read
of_bound : (o : Option Value) (b : Bindings) (var : ℕ) → option_map (bound b var) o ≡ only_if (is_some o && true) (bound b var (unwrap_or o nil))
of_bound None b var = refl
of_bound (Some v) b var = refl

of_compared : (o other : Option Value) (predicate : Pred) (b : Bindings) (passes : Bool) → passes ≡ option_map_or (holds predicate (unwrap_or o nil)) other false →
    option_and_then (λ value. option_and_then (λ x. only_if (holds predicate value x) b) other) o ≡ only_if (is_some o && passes) b
of_compared None other predicate b passes is = refl
of_compared (Some v) None predicate b passes is = ap (λ h. only_if h b) (sym is)
of_compared (Some v) (Some x) predicate b passes is = ap (λ h. only_if h b) (sym is)

of_listed : (o : Option Value) (among : List Value) (b : Bindings) → option_and_then (λ value. only_if (list_any (same_value value) among) b) o ≡ only_if (is_some o && list_any (same_value (unwrap_or o nil)) among) b
of_listed None among b = refl
of_listed (Some v) among b = refl

-- that the attribute is there, as the element's length says it
where_there : (e : Element) (attr : ℕ) (passes : Bool) (b : Bindings) → only_if (is_some (slice_get e.values attr) && passes) b ≡ only_if (nat_lt attr (length e.values) && passes) b
where_there e attr passes b = ap (λ h. only_if (h && passes) b) (sym (lt_is_some e.values attr))

-- the value at the new source of a variable is the element's own
new_source : (number : ℕ) (before : Sources) (attr var : ℕ) (es : List Element) (e : Element) → length es ≡ number → bound (bindings_at before (es ++ e ∷ [])) var (value_at e attr) ≡ bindings_at (sources_after_test number before (Bind attr var)) (es ++ e ∷ [])
new_source number before attr var es e long =
    let row = es ++ e ∷ [] in
    let value : value_in row (record { condition = number; attribute = attr }) ≡ value_at e attr = subst (λ n. value_in row (record { condition = n; attribute = attr }) ≡ value_at e attr) long (value_in-last es e attr) in
    ap (bound (bindings_at before row) var) (sym value) ∙ sym (bindings_at-bound before row var (record { condition = number; attribute = attr }))

pub IsPart-Bind : (number : ℕ) (before : Sources) (attr var : ℕ) → IsPart number before (Bind attr var) Nothing
IsPart-Bind number before attr var es e long =
    let b = bindings_at before (es ++ e ∷ []) in
    of_bound (slice_get e.values attr) b var
    ∙ where_there e attr true (bound b var (value_at e attr))
    ∙ ap (only_if (nat_lt attr (length e.values) && true)) (new_source number before attr var es e long)

pub IsPart-Cmp : (number : ℕ) (before : Sources) (attr : ℕ) (predicate : Pred) (arg : Arg) (part : Part) → Compares number attr predicate arg before part → IsPart number before (Cmp attr predicate arg) part
IsPart-Cmp number before attr predicate arg part compares es e long =
    let b = bindings_at before (es ++ e ∷ []) in
    of_compared (slice_get e.values attr) (compared_with arg b) predicate b (part_holds es e part) (compares es e long)
    ∙ where_there e attr (part_holds es e part) b

pub IsPart-OneOf : (number : ℕ) (before : Sources) (attr : ℕ) (among : List Value) → IsPart number before (OneOf attr among) (Lone (lone.OneOf attr among))
IsPart-OneOf number before attr among es e long =
    let b = bindings_at before (es ++ e ∷ []) in
    of_listed (slice_get e.values attr) among b
    ∙ where_there e attr (list_any (same_value (value_at e attr)) among) b

one_more : (joined there passes : Bool) (b after : Bindings) (next : Bindings → Option Bindings) → next b ≡ only_if (there && passes) after → option_and_then next (only_if joined b) ≡ only_if ((joined && there) && passes) after
one_more false there passes b after next is = refl
one_more true there passes b after next is = is

-- a join that asks for the attribute and the part, besides, asks for the test
pub AsksMore-part : (number : ℕ) (before : Sources) (t : Test) (join needing more : Join) (part : Part) → IsPart number before t part → ((es : List Element) (e : Element) → joins needing es e ≡ (joins join es e && nat_lt (attribute_of t) (length e.values))) → ((es : List Element) (e : Element) → joins more es e ≡ (joins needing es e && part_holds es e part)) → AsksMore number before t join more
AsksMore-part number before t join needing more part is_part needs adds es e long =
    let after = bindings_at (sources_after_test number before t) (es ++ e ∷ []) in
    one_more (joins join es e) (nat_lt (attribute_of t) (length e.values)) (part_holds es e part) (bindings_at before (es ++ e ∷ [])) after (λ given. after_test t given e.values) (is_part es e long)
    ∙ ap (λ h. only_if h after) (sym (adds es e ∙ ap (λ h. h && part_holds es e part) (needs es e)))
