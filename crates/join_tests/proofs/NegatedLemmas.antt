-- Negated condition elements: where their joins stand, and what these ask.
use Rattle.std.proofs.Common.{◌≡◌, ℕ, ◌+◌, ◌≤◌, List, [], ◌∷◌, ◌++◌, Bool, true, false, cond, not, filter, Option, Some, is_some, length, map, option_and_then, option_map, slice_get, refl, sym, ◌∙◌, ap, subst, arith, append_assoc, append-nil}
use Rattle.std.specs.List.{AllByRecursion}
use Rattle.rule_base.specs.declared.element.Element.{Element}
use Rattle.rule_base.specs.declared.condition.Cond.{Cond}
use Rattle.rule_base.specs.Chains.{only_if}
use Rattle.rule_base.specs.Bindings.{Bindings}
use Rattle.rule_base.specs.Acceptance.{accepts}
use Rattle.rule_base.specs.ElementMatch.{after_element, matched}
use Rattle.rule_base.specs.SoundConditions.{positive_classes}
use Rattle.join_tests.specs.declared.joins.Join.{Join}
use Rattle.join_tests.specs.declared.joins.Negated.{Negated}
use Rattle.join_tests.specs.Joining.{joins}
use Rattle.join_tests.specs.Sources.{AreWithin, Sources, bindings_at, no_sources, sources_after_tests}
use Rattle.join_tests.specs.Compiling.{IsJoin}
use Rattle.join_tests.specs.Meaning.{IsNegated, negated_count}
use Rattle.join_tests.proofs.ReadingLemmas.{AreWithin-after_tests, AreWithin-none, bindings_at-none}
use Rattle.join_tests.proofs.RuleLemmas.{Compiles, CompilesFirst}
use Rattle.join_tests.proofs.RowLemmas.{accepts-joins, is_some_only_if, length-more}

-- how many condition elements are positive or negated, where the first has this sign
abbrev positives_by : Bool → Cond → List Cond → ℕ
positives_by sign c conds = length (map (λ (x : Cond). x.class) (cond (not sign) (c ∷ filter (λ (x : Cond). not x.negated) conds) (filter (λ (x : Cond). not x.negated) conds)))

abbrev negated_by : Bool → Cond → List Cond → ℕ
negated_by sign c conds = length (cond sign (c ∷ filter (λ (x : Cond). x.negated) conds) (filter (λ (x : Cond). x.negated) conds))

-- there are as many joins as positive condition elements
length_by_sign : (sign : Bool) (c : Cond) (conds : List Cond) (number : ℕ) (before : Sources) (js : List Join) (ns : List Negated) (after : Sources) →
    ((number' : ℕ) (before' : Sources) (js' : List Join) (ns' : List Negated) → Compiles number' before' conds js' ns' after → length js' ≡ length (positive_classes conds)) →
    CompilesFirst sign number before c js ns (λ number' before' js' ns'. Compiles number' before' conds js' ns' after) → length js ≡ positives_by sign c conds
length_by_sign true c conds number before js [] after rest compiles = absurd compiles
length_by_sign true c conds number before js (n ∷ ns) after rest compiles = rest number before js ns compiles.2
length_by_sign false c conds number before [] ns after rest compiles = absurd compiles
length_by_sign false c conds number before (join ∷ js) ns after rest compiles = let later = rest (number + 1) (sources_after_tests number before c.tests) js ns compiles.1 in omega (arith, later)

pub length-compiled : (conds : List Cond) (number : ℕ) (before : Sources) (js : List Join) (ns : List Negated) (after : Sources) → Compiles number before conds js ns after → length js ≡ length (positive_classes conds)
length-compiled [] number before [] [] after compiles = refl
length-compiled [] number before [] (n ∷ ns) after compiles = absurd compiles
length-compiled [] number before (join ∷ js) ns after compiles = absurd compiles
length-compiled (c ∷ conds) number before js ns after compiles =
    length_by_sign c.negated c conds number before js ns after (λ number' before' js' ns'. length-compiled conds number' before' js' ns' after) compiles

-- and as many negated ones
negated_length_by_sign : (sign : Bool) (c : Cond) (conds : List Cond) (number : ℕ) (before : Sources) (js : List Join) (ns : List Negated) (after : Sources) →
    ((number' : ℕ) (before' : Sources) (js' : List Join) (ns' : List Negated) → Compiles number' before' conds js' ns' after → length ns' ≡ negated_count conds) →
    CompilesFirst sign number before c js ns (λ number' before' js' ns'. Compiles number' before' conds js' ns' after) → length ns ≡ negated_by sign c conds
negated_length_by_sign true c conds number before js [] after rest compiles = absurd compiles
negated_length_by_sign true c conds number before js (n ∷ ns) after rest compiles = let later = rest number before js ns compiles.2 in omega (arith, later)
negated_length_by_sign false c conds number before [] ns after rest compiles = absurd compiles
negated_length_by_sign false c conds number before (join ∷ js) ns after rest compiles = rest (number + 1) (sources_after_tests number before c.tests) js ns compiles.1

pub negated_count-compiled : (conds : List Cond) (number : ℕ) (before : Sources) (js : List Join) (ns : List Negated) (after : Sources) → Compiles number before conds js ns after → length ns ≡ negated_count conds
negated_count-compiled [] number before [] [] after compiles = refl
negated_count-compiled [] number before [] (n ∷ ns) after compiles = absurd compiles
negated_count-compiled [] number before (join ∷ js) ns after compiles = absurd compiles
negated_count-compiled (c ∷ conds) number before js ns after compiles =
    negated_length_by_sign c.negated c conds number before js ns after (λ number' before' js' ns'. negated_count-compiled conds number' before' js' ns' after) compiles

-- no negated one stands after the last place
abbrev ArePlaced : ℕ → List Negated → Type 0
ArePlaced last ns = AllByRecursion (λ (n : Negated). n.after ≤ last) ns

placed_by_sign : (sign : Bool) (c : Cond) (conds : List Cond) (number last : ℕ) (before : Sources) (js : List Join) (ns : List Negated) (after : Sources) →
    ((number' : ℕ) (before' : Sources) (js' : List Join) (ns' : List Negated) → number' + length js' ≤ last → Compiles number' before' conds js' ns' after → ArePlaced last ns') →
    number + length js ≤ last → CompilesFirst sign number before c js ns (λ number' before' js' ns'. Compiles number' before' conds js' ns' after) → ArePlaced last ns
placed_by_sign true c conds number last before js [] after rest le compiles = tt
placed_by_sign true c conds number last before js (n ∷ ns) after rest le compiles = (let place = compiles.0 in omega (arith, place, le), rest number before js ns le compiles.2)
placed_by_sign false c conds number last before [] ns after rest le compiles = absurd compiles
placed_by_sign false c conds number last before (join ∷ js) ns after rest le compiles = rest (number + 1) (sources_after_tests number before c.tests) js ns (omega (arith, le)) compiles.1

pub are_placed : (conds : List Cond) (number last : ℕ) (before : Sources) (js : List Join) (ns : List Negated) (after : Sources) → number + length js ≤ last → Compiles number before conds js ns after → ArePlaced last ns
are_placed [] number last before [] [] after le compiles = tt
are_placed [] number last before [] (n ∷ ns) after le compiles = absurd compiles
are_placed [] number last before (join ∷ js) ns after le compiles = absurd compiles
are_placed (c ∷ conds) number last before js ns after le compiles =
    placed_by_sign c.negated c conds number last before js ns after (λ number' before' js' ns'. are_placed conds number' last before' js' ns' after) le compiles

-- after so many positive condition elements there come so many positive and negated ones, which match in this way, and
-- then the negated one
record IsThere (number : ℕ) (start : Sources) (further : Cond) (ns : List Negated) (count positives : ℕ) (match : List Element → Bindings → Option Bindings) : Type 0 where
  negated : Negated
  at : slice_get ns count ≡ Some negated
  place : negated.after ≡ number + positives
  asks : (first es : List Element) (bindings : Bindings) (e : Element) → length first ≡ number → match es (bindings_at start first) ≡ Some bindings → is_some (accepts further bindings e) ≡ joins negated.join (first ++ es) e

asks_here : (number : ℕ) (start : Sources) (further : Cond) (join : Join) (first es : List Element) (bindings : Bindings) (e : Element) → IsJoin number start further join → length first ≡ number → AreWithin number start → matched [] es (bindings_at start first) ≡ Some bindings → is_some (accepts further bindings e) ≡ joins join (first ++ es) e
asks_here number start further join first (x ∷ es) bindings e is long within matches = absurd (let wrong : ⊥ = cc in wrong)
asks_here number start further join first [] bindings e is long within matches =
    let same : bindings ≡ bindings_at start first = cc in
    ap (λ b. is_some (accepts further b e)) same
    ∙ ap (λ (o : Option Bindings). is_some o) (accepts-joins number start further join first e is long within)
    ∙ is_some_only_if (joins join first e) (bindings_at (sources_after_tests number start further.tests) (first ++ e ∷ []))
    ∙ ap (λ row. joins join row e) (sym (append-nil first))

there_first : (number : ℕ) (start : Sources) (further : Cond) (rest : List Cond) (js : List Join) (ns : List Negated) (after : Sources) → AreWithin number start → CompilesFirst true number start further js ns (λ number' before' js' ns'. Compiles number' before' rest js' ns' after) → IsThere number start further ns 0 0 (matched [])
there_first number start further rest js [] after within compiles = absurd compiles
there_first number start further rest js (n ∷ ns) after within compiles = record {
  negated = n;
  at = refl;
  place = (let place = compiles.0 in omega (arith, place));
  asks = λ first es bindings e long matches. asks_here number start further n.join first es bindings e compiles.1 long within matches;
}

taken : (joined : Bool) (before : List Cond) (es : List Element) (b bindings : Bindings) → option_and_then (λ (left : List Element × Bindings). matched before left.0 left.1) (option_map (λ after. (es, after)) (only_if joined b)) ≡ Some bindings → matched before es b ≡ Some bindings
taken true before es b bindings is = is
taken false before es b bindings is = absurd (let wrong : ⊥ = cc in wrong)

-- what is there after the rest of them is there after all of them
abbrev matched_by : Bool → Cond → List Cond → List Element → Bindings → Option Bindings
matched_by sign c before es b = option_and_then (λ (left : List Element × Bindings). matched before left.0 left.1) (after_element sign c es b)

asks_later : (number : ℕ) (start : Sources) (c : Cond) (before : List Cond) (further : Cond) (join negated : Join) (first es : List Element) (bindings : Bindings) (e : Element) → IsJoin number start c join → length first ≡ number → AreWithin number start →
    ((row es' : List Element) → length row ≡ number + 1 → matched before es' (bindings_at (sources_after_tests number start c.tests) row) ≡ Some bindings → is_some (accepts further bindings e) ≡ joins negated (row ++ es') e) →
    matched_by false c before es (bindings_at start first) ≡ Some bindings → is_some (accepts further bindings e) ≡ joins negated (first ++ es) e
asks_later number start c before further join negated first [] bindings e is long within later matches = absurd (let wrong : ⊥ = cc in wrong)
asks_later number start c before further join negated first (x ∷ es) bindings e is long within later matches =
    let row = first ++ x ∷ [] in
    let b = bindings_at (sources_after_tests number start c.tests) row in
    let accepted = accepts-joins number start c join first x is long within in
    let goes : option_and_then (λ (left : List Element × Bindings). matched before left.0 left.1) (option_map (λ after. (es, after)) (only_if (joins join first x) b)) ≡ Some bindings =
    ap (λ o. option_and_then (λ (left : List Element × Bindings). matched before left.0 left.1) (option_map (λ after. (es, after)) o)) (sym accepted) ∙ matches in
    later row es (length-more number first x long) (taken (joins join first x) before es b bindings goes)
    ∙ ap (λ all. joins negated all e) (append_assoc first (x ∷ []) es)

there_by_sign : (sign : Bool) (c : Cond) (before rest : List Cond) (further : Cond) (number : ℕ) (start : Sources) (js : List Join) (ns : List Negated) (after : Sources) → AreWithin number start →
    ((number' : ℕ) (start' : Sources) (js' : List Join) (ns' : List Negated) → AreWithin number' start' → Compiles number' start' (before ++ further ∷ rest) js' ns' after → IsThere number' start' further ns' (negated_count before) (length (positive_classes before)) (matched before)) →
    CompilesFirst sign number start c js ns (λ number' before' js' ns'. Compiles number' before' (before ++ further ∷ rest) js' ns' after) →
    IsThere number start further ns (negated_by sign c before) (positives_by sign c before) (matched_by sign c before)
there_by_sign true c before rest further number start js [] after within later compiles = absurd compiles
there_by_sign true c before rest further number start js (n ∷ ns) after within later compiles =
    let there = later number start js ns within compiles.2 in
    record { negated = there.negated; at = there.at; place = there.place; asks = there.asks }
there_by_sign false c before rest further number start [] ns after within later compiles = absurd compiles
there_by_sign false c before rest further number start (join ∷ js) ns after within later compiles =
    let there = later (number + 1) (sources_after_tests number start c.tests) js ns (AreWithin-after_tests number start c.tests within) compiles.1 in
    record {
      negated = there.negated;
      at = there.at;
      place = (let place = there.place in omega (arith, place));
      asks = λ first es bindings e long matches.
          asks_later number start c before further join there.negated.join first es bindings e compiles.0 long within (λ row es' long' matches'. there.asks row es' bindings e long' matches') matches;
    }

is_there : (before rest : List Cond) (further : Cond) (number : ℕ) (start : Sources) (js : List Join) (ns : List Negated) (after : Sources) → further.negated ≡ true → AreWithin number start → Compiles number start (before ++ further ∷ rest) js ns after → IsThere number start further ns (negated_count before) (length (positive_classes before)) (matched before)
is_there [] rest further number start js ns after sign within compiles =
    there_first number start further rest js ns after within (subst (λ b. CompilesFirst b number start further js ns (λ number' before' js' ns'. Compiles number' before' rest js' ns' after)) sign compiles)
is_there (c ∷ before) rest further number start js ns after sign within compiles =
    there_by_sign c.negated c before rest further number start js ns after within (λ number' start' js' ns' within' compiles'. is_there before rest further number' start' js' ns' after sign within' compiles') compiles

pub IsNegated-compiles : (vars : ℕ) (before rest : List Cond) (further : Cond) (js : List Join) (ns : List Negated) (after : Sources) → further.negated ≡ true → Compiles 0 (no_sources vars) (before ++ further ∷ rest) js ns after → (n : Negated) × (slice_get ns (negated_count before) ≡ Some n) × IsNegated vars before further n
IsNegated-compiles vars before rest further js ns after sign compiles =
    let there = is_there before rest further 0 (no_sources vars) js ns after sign (AreWithin-none vars) compiles in (
      there.negated,
      there.at,
      record {
        place = (let place = there.place in omega (arith, place));
        asks = λ es bindings e matches. there.asks [] es bindings e refl (ap (matched before es) (bindings_at-none vars) ∙ matches);
      },
    )
