-- Rows: a rule takes elements where each joins those before it.
use Rattle.std.proofs.Common.{◌≡◌, ℕ, ◌+◌, zero, suc, List, [], ◌∷◌, ◌++◌, Bool, true, false, ◌&&◌, cond, not, filter, Some, is_some, length, option_and_then, option_map, slice_get, take, refl, sym, ◌∙◌, ap, subst, arith, length-append, append_assoc, append-nil}
use Rattle.rule_base.specs.declared.element.Element.{Element}
use Rattle.rule_base.specs.declared.condition.Cond.{Cond}
use Rattle.rule_base.specs.declared.program.Rule.{Rule}
use Rattle.rule_base.specs.Chains.{only_if}
use Rattle.rule_base.specs.Bindings.{Bindings, no_bindings}
use Rattle.rule_base.specs.Acceptance.{accepts}
use Rattle.rule_base.specs.ElementMatch.{after_element, matched}
use Rattle.rule_base.proofs.StepByStepLemmas.{take_next}
use Rattle.join_tests.specs.declared.joins.Join.{Join}
use Rattle.join_tests.specs.declared.joins.Negated.{Negated}
use Rattle.join_tests.specs.Joining.{are_joined, each_joins, joins}
use Rattle.join_tests.specs.Sources.{AreWithin, Sources, bindings_at, no_sources, sources_after_tests}
use Rattle.join_tests.specs.Compiling.{IsJoin}
use Rattle.join_tests.specs.Meaning.{first_positives}
use Rattle.join_tests.proofs.ReadingLemmas.{AreWithin-after_tests, AreWithin-none, bindings_at-none, bindings_at-push}
use Rattle.join_tests.proofs.RuleLemmas.{Compiles, CompilesFirst}

-- one element more
pub length-more : (number : ℕ) (first : List Element) (e : Element) → length first ≡ number → length (first ++ e ∷ []) ≡ number + 1
length-more number first e long = length-append first (e ∷ []) ∙ omega (arith, long)

-- the condition element accepts the element where it joins those before it
pub accepts-joins : (number : ℕ) (before : Sources) (c : Cond) (join : Join) (first : List Element) (e : Element) → IsJoin number before c join → length first ≡ number → AreWithin number before →
    accepts c (bindings_at before first) e ≡ only_if (joins join first e) (bindings_at (sources_after_tests number before c.tests) (first ++ e ∷ []))
accepts-joins number before c join first e is long within =
    ap (λ b. accepts c b e) (sym (bindings_at-push before first e (subst (λ n. AreWithin n before) (sym long) within))) ∙ is.asks first e long

pub is_some_only_if : (b : Bool) (bindings : Bindings) → is_some (only_if b bindings) ≡ b
is_some_only_if true bindings = refl
is_some_only_if false bindings = refl

-- the elements that are left are taken where each joins those before it
abbrev RestIsJoined : List Cond → Type 0
RestIsJoined conds = (number : ℕ) (before : Sources) (js : List Join) (ns : List Negated) (after : Sources) (first es : List Element) → Compiles number before conds js ns after → length first ≡ number → AreWithin number before → is_some (matched conds es (bindings_at before first)) ≡ each_joins first js es

by_joined : (joined rest : Bool) (conds : List Cond) (es : List Element) (b : Bindings) → is_some (matched conds es b) ≡ rest → is_some (option_and_then (λ (after : List Element × Bindings). matched conds after.0 after.1) (option_map (λ after. (es, after)) (only_if joined b))) ≡ (joined && rest)
by_joined true rest conds es b is = is
by_joined false rest conds es b is = refl

by_sign : (sign : Bool) (c : Cond) (conds : List Cond) → RestIsJoined conds → (number : ℕ) (before : Sources) (js : List Join) (ns : List Negated) (after : Sources) (first es : List Element) →
    CompilesFirst sign number before c js ns (λ number' before' js' ns'. Compiles number' before' conds js' ns' after) → length first ≡ number → AreWithin number before →
    is_some (option_and_then (λ (left : List Element × Bindings). matched conds left.0 left.1) (after_element sign c es (bindings_at before first))) ≡ each_joins first js es
by_sign true c conds rest number before js [] after first es compiles long within = absurd compiles
by_sign true c conds rest number before js (n ∷ ns) after first es compiles long within = rest number before js ns after first es compiles.2 long within
by_sign false c conds rest number before [] ns after first es compiles long within = absurd compiles
by_sign false c conds rest number before (join ∷ js) ns after first [] compiles long within = refl
by_sign false c conds rest number before (join ∷ js) ns after first (e ∷ es) compiles long within =
    let next = sources_after_tests number before c.tests in
    ap (λ o. is_some (option_and_then (λ (left : List Element × Bindings). matched conds left.0 left.1) (option_map (λ b. (es, b)) o))) (accepts-joins number before c join first e compiles.0 long within)
    ∙ by_joined (joins join first e) (each_joins (first ++ e ∷ []) js es) conds es (bindings_at next (first ++ e ∷ [])) (rest (number + 1) next js ns after (first ++ e ∷ []) es compiles.1 (length-more number first e long) (AreWithin-after_tests number before c.tests within))

is_joined : (conds : List Cond) → RestIsJoined conds
is_joined [] number before [] [] after first [] compiles long within = refl
is_joined [] number before [] [] after first (e ∷ es) compiles long within = refl
is_joined [] number before [] (n ∷ ns) after first es compiles long within = absurd compiles
is_joined [] number before (j ∷ js) ns after first es compiles long within = absurd compiles
is_joined (c ∷ conds) number before js ns after first es compiles long within = by_sign c.negated c conds (is_joined conds) number before js ns after first es compiles long within

pub matched-joined : (vars : ℕ) (conds : List Cond) (js : List Join) (ns : List Negated) (after : Sources) (es : List Element) → Compiles 0 (no_sources vars) conds js ns after → is_some (matched conds es (no_bindings vars)) ≡ are_joined js es
matched-joined vars conds js ns after es compiles =
    ap (λ b. is_some (matched conds es b)) (sym (bindings_at-none vars)) ∙ is_joined conds 0 (no_sources vars) js ns after [] es compiles refl (AreWithin-none vars)

-- the first positive condition elements become the first joins
abbrev IsFirst : ℕ → Sources → List Cond → List Join → Type 0
IsFirst number before conds js = (after : Sources) × Compiles number before conds js [] after

first_by_sign : (sign : Bool) (c : Cond) (conds : List Cond) (n number : ℕ) (before : Sources) (js : List Join) (ns : List Negated) (after : Sources) → c.negated ≡ sign →
    ((m number' : ℕ) (before' : Sources) (js' : List Join) (ns' : List Negated) → Compiles number' before' conds js' ns' after → IsFirst number' before' (take m (filter (λ (x : Cond). not x.negated) conds)) (take m js')) →
    CompilesFirst sign number before c js ns (λ number' before' js' ns'. Compiles number' before' conds js' ns' after) →
    IsFirst number before (take n (cond (not sign) (c ∷ filter (λ (x : Cond). not x.negated) conds) (filter (λ (x : Cond). not x.negated) conds))) (take n js)
first_by_sign true c conds n number before js [] after is rest compiles = absurd compiles
first_by_sign true c conds n number before js (negated ∷ ns) after is rest compiles = rest n number before js ns compiles.2
first_by_sign false c conds n number before [] ns after is rest compiles = absurd compiles
first_by_sign false c conds zero number before (join ∷ js) ns after is rest compiles = (before, refl)
first_by_sign false c conds (suc n) number before (join ∷ js) ns after is rest compiles =
    let next = rest n (number + 1) (sources_after_tests number before c.tests) js ns compiles.1 in
    let left = take n (filter (λ (x : Cond). not x.negated) conds) in
    (next.0, subst (λ b. CompilesFirst b number before c (join ∷ take n js) [] (λ number' before' js' ns'. Compiles number' before' left js' ns' next.0)) (sym is) (compiles.0, next.1))

pub Compiles-first : (conds : List Cond) (after : Sources) (n number : ℕ) (before : Sources) (js : List Join) (ns : List Negated) → Compiles number before conds js ns after → IsFirst number before (take n (filter (λ (x : Cond). not x.negated) conds)) (take n js)
Compiles-first [] after zero number before [] [] compiles = (after, compiles)
Compiles-first [] after (suc n) number before [] [] compiles = (after, compiles)
Compiles-first [] after n number before [] (negated ∷ ns) compiles = absurd compiles
Compiles-first [] after n number before (join ∷ js) ns compiles = absurd compiles
Compiles-first (c ∷ conds) after n number before js ns compiles = first_by_sign c.negated c conds n number before js ns after refl (λ m number' before' js' ns'. Compiles-first conds after m number' before' js' ns') compiles

-- one element more joins those that are joined
then_true : (b : Bool) → (b && true) ≡ b
then_true true = refl
then_true false = refl

then_false : (b : Bool) → (b && false) ≡ false
then_false true = refl
then_false false = refl

and_assoc : (a b c : Bool) → (a && (b && c)) ≡ ((a && b) && c)
and_assoc true b c = refl
and_assoc false b c = refl

too_many : (first es : List Element) (e : Element) → each_joins first [] (es ++ e ∷ []) ≡ false
too_many first [] e = refl
too_many first (x ∷ es) e = refl

too_few : (first : List Element) (js : List Join) (join : Join) → each_joins first (js ++ join ∷ []) [] ≡ false
too_few first [] join = refl
too_few first (j ∷ js) join = refl

pub each_joins-push : (first : List Element) (js : List Join) (es : List Element) (join : Join) (e : Element) → each_joins first (js ++ join ∷ []) (es ++ e ∷ []) ≡ (each_joins first js es && joins join (first ++ es) e)
each_joins-push first [] [] join e = then_true (joins join first e) ∙ ap (λ row. joins join row e) (sym (append-nil first))
each_joins-push first [] (x ∷ es) join e = ap (λ b. joins join first x && b) (too_many (first ++ x ∷ []) es e) ∙ then_false (joins join first x)
each_joins-push first (j ∷ js) [] join e = ap (λ b. joins j first e && b) (too_few (first ++ e ∷ []) js join) ∙ then_false (joins j first e)
each_joins-push first (j ∷ js) (x ∷ es) join e =
    ap (λ b. joins j first x && b) (each_joins-push (first ++ x ∷ []) js es join e)
    ∙ ap (λ row. joins j first x && (each_joins (first ++ x ∷ []) js es && joins join row e)) (append_assoc first (x ∷ []) es)
    ∙ and_assoc (joins j first x) (each_joins (first ++ x ∷ []) js es) (joins join (first ++ x ∷ es) e)

-- what the first joins of a rule say
pub matched-first : (rule : Rule) (js : List Join) (ns : List Negated) (after : Sources) (n : ℕ) (es : List Element) → Compiles 0 (no_sources rule.vars) rule.conds js ns after → is_some (matched (first_positives n rule) es (no_bindings rule.vars)) ≡ are_joined (take n js) es
matched-first rule js ns after n es compiles =
    let first = Compiles-first rule.conds after n 0 (no_sources rule.vars) js ns compiles in
    matched-joined rule.vars (first_positives n rule) (take n js) [] first.0 es first.1

pub matched-next : (rule : Rule) (js : List Join) (ns : List Negated) (after : Sources) (n : ℕ) (join : Join) (es : List Element) (e : Element) → Compiles 0 (no_sources rule.vars) rule.conds js ns after → slice_get js n ≡ Some join → is_some (matched (first_positives n rule) es (no_bindings rule.vars)) ≡ true →
    is_some (matched (first_positives (n + 1) rule) (es ++ e ∷ []) (no_bindings rule.vars)) ≡ joins join es e
matched-next rule js ns after n join es e compiles at is =
    matched-first rule js ns after (n + 1) (es ++ e ∷ []) compiles
    ∙ ap (λ all. are_joined all (es ++ e ∷ [])) (take_next js n join at)
    ∙ each_joins-push [] (take n js) es join e
    ∙ ap (λ b. b && joins join es e) (sym (matched-first rule js ns after n es compiles) ∙ is)
