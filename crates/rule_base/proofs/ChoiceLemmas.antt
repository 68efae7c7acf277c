-- Choices that are the same.
use Rattle.std.proofs.Common.{◌≡◌, List, [], ◌∷◌, ◌++◌, Bool, true, false, cond, ◌&&◌, ◌||◌, ◌==◌, ap, sym, ◌∙◌, refl, true≢false}
use Rattle.std.specs.List.{AllByRecursion, IsDistinct, filter, list_any}
use Rattle.std.proofs.lemmas.Bool.Decides.{Decides-eqb}
use Rattle.std.proofs.lemmas.Slice.Eq.{bytes_eq-Decides}
use Rattle.rule_base.specs.declared.instantiation.Choice.{Choice}
use Rattle.rule_base.specs.State.{same_choice}
use Rattle.rule_base.proofs.EachLemmas.{Each-append, Each-filter}
use Rattle.rule_base.specs.Numbers.{same_numbers}

-- a choice is the same as itself
pub same_choice-itself : (c : Choice) → same_choice c c ≡ true
same_choice-itself c = rw ((Decides-eqb c.rule c.rule).1 refl, (bytes_eq-Decides c.tags c.tags).1 refl) refl

both_hold : (a b : Bool) → (a && b) ≡ true → (a ≡ true) × (b ≡ true)
both_hold true true is = (refl, refl)
both_hold true false is = absurd (let wrong : ⊥ = cc in wrong)
both_hold false b is = absurd (let wrong : ⊥ = cc in wrong)

-- choices with the same parts
same_parts : (c d : Choice) → c.rule ≡ d.rule → c.tags ≡ d.tags → c ≡ d
same_parts c d rule tags = λ i. record { rule = rule i; tags = tags i }

-- and choices that are the same are equal
pub same_choice-equal : (c d : Choice) → same_choice c d ≡ true → c ≡ d
same_choice-equal c d same =
    let both = both_hold (c.rule == d.rule) (same_numbers c.tags d.tags) same in
    same_parts c d ((Decides-eqb c.rule d.rule).0 both.0) ((bytes_eq-Decides c.tags d.tags).0 both.1)

-- a choice among others is among those that pass a test which it passes
kept_first : (c d : Choice) (p : Choice → Bool) (same passes : Bool) (rest : List Choice) (later : Bool) → same_choice c d ≡ same → p d ≡ passes → p c ≡ true → (same || later) ≡ true → (later ≡ true → list_any (same_choice c) rest ≡ true)
    → list_any (same_choice c) (cond passes (d ∷ rest) rest) ≡ true
kept_first c d p true true rest later is at of_c any of_rest = rw is refl
kept_first c d p true false rest later is at of_c any of_rest = absurd (let wrong : ⊥ = absurd_by (sym at ∙ ap p (sym (same_choice-equal c d is)) ∙ of_c) in wrong)
  where
    absurd_by : false ≡ true → ⊥
    absurd_by e = cc
kept_first c d p false true rest later is at of_c any of_rest = rw is (of_rest any)
kept_first c d p false false rest later is at of_c any of_rest = of_rest any

pub any_filter : (c : Choice) (p : Choice → Bool) (choices : List Choice) → list_any (same_choice c) choices ≡ true → p c ≡ true → list_any (same_choice c) (filter p choices) ≡ true
any_filter c p [] any of_c = any
any_filter c p (d ∷ choices) any of_c = kept_first c d p (same_choice c d) (p d) (filter p choices) (list_any (same_choice c) choices) refl refl of_c any (λ later. any_filter c p choices later of_c)

-- a choice that a filter leaves was there
left_first : (c d : Choice) (passes : Bool) (rest : List Choice) (later : Bool) → list_any (same_choice c) (cond passes (d ∷ rest) rest) ≡ true → (list_any (same_choice c) rest ≡ true → later ≡ true) → (same_choice c d || later) ≡ true
left_first c d true rest later any of_rest = either (same_choice c d) (list_any (same_choice c) rest) later any of_rest
  where
    either : (b more later : Bool) → (b || more) ≡ true → (more ≡ true → later ≡ true) → (b || later) ≡ true
    either true more later any of_rest = refl
    either false more later any of_rest = of_rest any
left_first c d false rest later any of_rest = either (same_choice c d) later (of_rest any)
  where
    either : (b later : Bool) → later ≡ true → (b || later) ≡ true
    either true later is = refl
    either false later is = is

pub any_filtered : (c : Choice) (p : Choice → Bool) (choices : List Choice) → list_any (same_choice c) (filter p choices) ≡ true → list_any (same_choice c) choices ≡ true
any_filtered c p [] any = any
any_filtered c p (d ∷ choices) any = left_first c d (p d) (filter p choices) (list_any (same_choice c) choices) any (any_filtered c p choices)

-- choices that differ, seen from the other
differs_by : (c d : Choice) (b : Bool) → same_choice d c ≡ b → same_choice c d ≡ false → same_choice d c ≡ false
differs_by c d false is differs = is
differs_by c d true is differs = absurd (true≢false (sym (same_choice-itself c) ∙ ap (same_choice c) (sym (same_choice-equal d c is)) ∙ differs))

pub same_choice-differs : (c d : Choice) → same_choice c d ≡ false → same_choice d c ≡ false
same_choice-differs c d differs = differs_by c d (same_choice d c) refl differs

neither : (a b : Bool) → (a || b) ≡ false → (a ≡ false) × (b ≡ false)
neither false false is = (refl, refl)
neither false true is = absurd (let wrong : ⊥ = cc in wrong)
neither true b is = absurd (let wrong : ⊥ = cc in wrong)

-- one more choice, which is not there yet, leaves none twice
pub IsDistinct-push : (choices : List Choice) (c : Choice) → IsDistinct same_choice choices → list_any (same_choice c) choices ≡ false → IsDistinct same_choice (choices ++ c ∷ [])
unfolding IsDistinct
IsDistinct-push [] c distinct new = (tt, tt)
IsDistinct-push (d ∷ choices) c distinct new =
    let both = neither (same_choice c d) (list_any (same_choice c) choices) new in
    (Each-append (λ e. same_choice d e ≡ false) choices (c ∷ []) distinct.0 (same_choice-differs c d both.0, tt), IsDistinct-push choices c distinct.1 both.1)

-- and so do fewer
distinct_first : (p : Choice → Bool) (b : Bool) (d : Choice) (choices : List Choice) → AllByRecursion (λ e. same_choice d e ≡ false) choices → IsDistinct same_choice (filter p choices) → IsDistinct same_choice (cond b (d ∷ filter p choices) (filter p choices))
unfolding IsDistinct
distinct_first p true d choices apart rest = (Each-filter (λ e. same_choice d e ≡ false) p choices apart, rest)
distinct_first p false d choices apart rest = rest

pub IsDistinct-filter : (p : Choice → Bool) (choices : List Choice) → IsDistinct same_choice choices → IsDistinct same_choice (filter p choices)
unfolding IsDistinct
IsDistinct-filter p [] distinct = tt
IsDistinct-filter p (d ∷ choices) distinct = distinct_first p (p d) d choices distinct.0 (IsDistinct-filter p choices distinct.1)
