-- Matches: a rule matches with elements of a memory that join, where no element there joins for a negated condition element.
use Rattle.std.proofs.Common.{◌≡◌, ℕ, ◌+◌, List, [], ◌∷◌, ◌++◌, Bool, true, false, ◌&&◌, ◌||◌, not, Option, Some, Result, is_some, is_ok, length, map, option_and_then, option_map, take, refl, sym, ◌∙◌, ap, append_assoc}
use Rattle.std.specs.List.{list_all, list_any}
use Rattle.std.proofs.Math.Seq.{take-append_seam}
use Rattle.rule_base.specs.declared.element.Element.{Element}
use Rattle.rule_base.specs.declared.condition.Cond.{Cond}
use Rattle.rule_base.specs.declared.program.Rule.{Rule}
use Rattle.rule_base.specs.Chains.{only_if}
use Rattle.rule_base.specs.Memory.{Memory, element_at}
use Rattle.rule_base.specs.Bindings.{Bindings}
use Rattle.rule_base.specs.Acceptance.{accepts}
use Rattle.rule_base.specs.Match.{accepts_some, after_cond, go_on, match_from, match_of}
use Rattle.join_tests.specs.declared.joins.Join.{Join}
use Rattle.join_tests.specs.declared.joins.Negated.{Negated}
use Rattle.join_tests.specs.Joining.{are_joined, each_joins, joins}
use Rattle.join_tests.specs.Sources.{AreWithin, Sources, bindings_at, no_sources, sources_after_tests}
use Rattle.join_tests.specs.Compiling.{IsJoin}
use Rattle.join_tests.specs.Meaning.{is_free}
use Rattle.join_tests.proofs.ReadingLemmas.{AreWithin-after_tests, AreWithin-none, bindings_at-none}
use Rattle.join_tests.proofs.RuleLemmas.{Compiles, CompilesFirst}
use Rattle.join_tests.proofs.RowLemmas.{accepts-joins, is_some_only_if, length-more}

-- the tags are those of the elements
abbrev AreAt : Memory → List ℕ → List Element → Type 0
AreAt memory tags es = map (element_at memory) tags ≡ map (λ (e : Element). Some e) es

-- tests that answer the same of each element
any_same : {X : Type 0} (p q : X → Bool) (xs : List X) → ((x : X) → p x ≡ q x) → list_any p xs ≡ list_any q xs
any_same p q [] same = refl
any_same p q (x ∷ xs) same = ap (λ b. b || list_any p xs) (same x) ∙ ap (λ b. q x || b) (any_same p q xs same)

-- the negated condition element accepts no element of the memory where none joins
free : (number : ℕ) (before : Sources) (c : Cond) (n : Negated) (memory : Memory) (first es : List Element) → n.after ≡ number → IsJoin number before c n.join → length first ≡ number → AreWithin number before →
    not (accepts_some c (bindings_at before first) memory) ≡ is_free memory (first ++ es) n
free number before c n memory first es place is long within =
    let after : (e : Element) → Bindings = λ e. bindings_at (sources_after_tests number before c.tests) (first ++ e ∷ []) in
    let same : (e : Element) → is_some (accepts c (bindings_at before first) e) ≡ joins n.join first e =
    λ e. ap (λ (o : Option Bindings). is_some o) (accepts-joins number before c n.join first e is long within) ∙ is_some_only_if (joins n.join first e) (after e) in
    let row : first ≡ take n.after (first ++ es) = sym (ap (λ m. take m (first ++ es)) (place ∙ sym long) ∙ take-append_seam first es) in
    ap not (any_same (λ (e : Element). is_some (accepts c (bindings_at before first) e)) (joins n.join first) memory same)
    ∙ ap (λ r. not (list_any (joins n.join r) memory)) row

-- the rest matches where the elements that are left join, and no negated condition element has one
abbrev RestMatches : Memory → List Cond → Type 0
RestMatches memory conds = (at number : ℕ) (before : Sources) (js : List Join) (ns : List Negated) (after : Sources) (first : List Element) (tags : List ℕ) (es : List Element) → Compiles number before conds js ns after → length first ≡ number → AreWithin number before → AreAt memory tags es →
    is_ok (match_from at conds memory tags (bindings_at before first)) ≡ (each_joins first js es && list_all (is_free memory (first ++ es)) ns)

abbrev go : ℕ → List Cond → Memory → List ℕ × Bindings → Result Bindings ℕ
go at conds memory after = match_from (at + 1) conds memory after.0 after.1

by_free : (free_here joined rest : Bool) (at : ℕ) (conds : List Cond) (memory : Memory) (tags : List ℕ) (b : Bindings) → is_ok (match_from (at + 1) conds memory tags b) ≡ (joined && rest) → is_ok (go_on {A = List ℕ × Bindings} at (only_if free_here (tags, b)) (go at conds memory)) ≡ (joined && (free_here && rest))
by_free true joined rest at conds memory tags b is = is
by_free false true rest at conds memory tags b is = refl
by_free false false rest at conds memory tags b is = refl

by_joined : (joined rest others : Bool) (at : ℕ) (conds : List Cond) (memory : Memory) (tags : List ℕ) (b : Bindings) → is_ok (match_from (at + 1) conds memory tags b) ≡ (rest && others) → is_ok (go_on {A = List ℕ × Bindings} at (option_map (λ after. (tags, after)) (only_if joined b)) (go at conds memory)) ≡ ((joined && rest) && others)
by_joined true rest others at conds memory tags b is = is
by_joined false rest others at conds memory tags b is = refl

by_sign : (sign : Bool) (memory : Memory) (c : Cond) (conds : List Cond) → RestMatches memory conds → (at number : ℕ) (before : Sources) (js : List Join) (ns : List Negated) (after : Sources) (first : List Element) (tags : List ℕ) (es : List Element) →
    CompilesFirst sign number before c js ns (λ number' before' js' ns'. Compiles number' before' conds js' ns' after) → length first ≡ number → AreWithin number before → AreAt memory tags es →
    is_ok (go_on at (after_cond sign c memory tags (bindings_at before first)) (go at conds memory)) ≡ (each_joins first js es && list_all (is_free memory (first ++ es)) ns)
by_sign true memory c conds rest at number before js [] after first tags es compiles long within are_at = absurd compiles
by_sign true memory c conds rest at number before js (n ∷ ns) after first tags es compiles long within are_at =
    let b = bindings_at before first in
    ap (λ h. is_ok (go_on {A = List ℕ × Bindings} at (only_if h (tags, b)) (go at conds memory))) (free number before c n memory first es compiles.0 compiles.1 long within)
    ∙ by_free (is_free memory (first ++ es) n) (each_joins first js es) (list_all (is_free memory (first ++ es)) ns) at conds memory tags b (rest (at + 1) number before js ns after first tags es compiles.2 long within are_at)
by_sign false memory c conds rest at number before [] ns after first tags es compiles long within are_at = absurd compiles
by_sign false memory c conds rest at number before (join ∷ js) ns after first [] [] compiles long within are_at = refl
by_sign false memory c conds rest at number before (join ∷ js) ns after first [] (e ∷ es) compiles long within are_at = absurd (let wrong : ⊥ = cc in wrong)
by_sign false memory c conds rest at number before (join ∷ js) ns after first (tag ∷ tags) [] compiles long within are_at = absurd (let wrong : ⊥ = cc in wrong)
by_sign false memory c conds rest at number before (join ∷ js) ns after first (tag ∷ tags) (e ∷ es) compiles long within are_at =
    let here : element_at memory tag ≡ Some e = cc in
    let later : AreAt memory tags es = cc in
    let b = bindings_at before first in
    let next = sources_after_tests number before c.tests in
    let row = first ++ e ∷ [] in
    ap (λ o. is_ok (go_on {A = List ℕ × Bindings} at (option_map (λ left. (tags, left)) (option_and_then (accepts c b) o)) (go at conds memory))) here
    ∙ ap (λ o. is_ok (go_on {A = List ℕ × Bindings} at (option_map (λ left. (tags, left)) o) (go at conds memory))) (accepts-joins number before c join first e compiles.0 long within)
    ∙ by_joined (joins join first e) (each_joins row js es) (list_all (is_free memory (row ++ es)) ns) at conds memory tags (bindings_at next row)
    (rest (at + 1) (number + 1) next js ns after row tags es compiles.1 (length-more number first e long) (AreWithin-after_tests number before c.tests within) later)
    ∙ ap (λ all. (joins join first e && each_joins row js es) && list_all (is_free memory all) ns) (append_assoc first (e ∷ []) es)

matches : (memory : Memory) (conds : List Cond) → RestMatches memory conds
matches memory [] at number before [] [] after first [] [] compiles long within are_at = refl
matches memory [] at number before [] [] after first [] (e ∷ es) compiles long within are_at = absurd (let wrong : ⊥ = cc in wrong)
matches memory [] at number before [] [] after first (tag ∷ tags) [] compiles long within are_at = absurd (let wrong : ⊥ = cc in wrong)
matches memory [] at number before [] [] after first (tag ∷ tags) (e ∷ es) compiles long within are_at = refl
matches memory [] at number before [] (n ∷ ns) after first tags es compiles long within are_at = absurd compiles
matches memory [] at number before (j ∷ js) ns after first tags es compiles long within are_at = absurd compiles
matches memory (c ∷ conds) at number before js ns after first tags es compiles long within are_at =
    by_sign c.negated memory c conds (matches memory conds) at number before js ns after first tags es compiles long within are_at

pub match_of-joined : (rule : Rule) (js : List Join) (ns : List Negated) (after : Sources) (memory : Memory) (tags : List ℕ) (es : List Element) → Compiles 0 (no_sources rule.vars) rule.conds js ns after → map (element_at memory) tags ≡ map (λ (e : Element). Some e) es →
    is_ok (match_of rule tags memory) ≡ (are_joined js es && list_all (is_free memory es) ns)
match_of-joined rule js ns after memory tags es compiles are_at =
    ap (λ b. is_ok (match_from 1 rule.conds memory tags b)) (sym (bindings_at-none rule.vars))
    ∙ matches memory rule.conds 1 0 (no_sources rule.vars) js ns after [] tags es compiles refl (AreWithin-none rule.vars) are_at
