-- Choices that are fired: the same ones, and tags that none of them has.
use Rattle.std.proofs.Common.{◌≡◌, ℕ, ◌<◌, ◌≤◌, ◌==◌, ◌||◌, ◌&&◌, List, [], ◌∷◌, ◌++◌, Bool, true, false, Option, None, Some, map, slice_get, refl, ap, sym, ◌∙◌, subst, inl, inr, arith}
use Rattle.std.specs.List.{AllByRecursion, cons_option, list_all, list_any}
use Rattle.std.proofs.lemmas.Bool.{and_from, eq-eqb, eqb-true, false_from_ne_true, or_cases, or_left, or_right}
use Rattle.std.proofs.lemmas.List.Folds.{list_any-append}
use Rattle.rule_base.specs.declared.base.Refraction.{Refraction}
use Rattle.rule_base.specs.declared.base.Refraction.TheVariants.{Once, Renewed}
use Rattle.rule_base.specs.declared.element.Element.{Element}
use Rattle.rule_base.specs.declared.instantiation.Choice.{Choice}
use Rattle.rule_base.specs.Numbers.{has_number}
use Rattle.rule_base.specs.State.{same_choice}
use Rattle.rule_base.proofs.ChoiceLemmas.{same_choice-equal}
use Rattle.rule_base.proofs.EachLemmas.{Each-filter_map, Each-map, Each-slice_get}
use Rattle.match_network.specs.Full.{tags_at}
use Rattle.match_network.specs.Row.{elements_of}
use Rattle.match_network.proofs.ComeLemmas.{Each-has}
use Rattle.firing_workers.specs.Following.{stays_fired}

pub and_false : (b : Bool) → (b && false) ≡ false
and_false true = refl
and_false false = refl

or_false : (b : Bool) → (b || false) ≡ b
or_false true = refl
or_false false = refl

-- what is free stays fired
pub stays_fired-free : (r : Refraction) (free : Bool) → free ≡ true → stays_fired r free ≡ true
stays_fired-free Once free is = refl
stays_fired-free Renewed free is = is

pub unfired_of : (fired stays : Bool) → (fired && stays) ≡ false → stays ≡ true → fired ≡ false
unfired_of false stays is stay = refl
unfired_of true stays is stay = absurd (let wrong : true ≡ false = sym stay ∙ is in let clash : ⊥ = cc in clash)

pub list_all-each : {X : Type 0} (p : X → Bool) (xs : List X) → AllByRecursion (λ x. p x ≡ true) xs → list_all p xs ≡ true
list_all-each p [] each = refl
list_all-each p (x ∷ xs) each = and_from (p x) (list_all p xs) each.0 (list_all-each p xs each.1)

-- what holds of each of these holds of one that is the same
pub Each-same : (P : Choice → Type 0) (c : Choice) (choices : List Choice) → AllByRecursion P choices → list_any (same_choice c) choices ≡ true → P c
Each-same P c [] each any = absurd (let wrong : ⊥ = cc in wrong)
Each-same P c (d ∷ choices) each any =
    elim (or_cases (same_choice c d) (list_any (same_choice c) choices) any) [
      | inl same ↦ subst P (sym (same_choice-equal c d same)) each.0
      | inr later ↦ Each-same P c choices each.1 later
    ]

-- one more choice is fired
pub fired-more : (c d : Choice) (fired : List Choice) → list_any (same_choice c) (fired ++ d ∷ []) ≡ (list_any (same_choice c) fired || same_choice c d)
fired-more c d fired = list_any-append (same_choice c) fired (d ∷ []) ∙ ap (λ b. list_any (same_choice c) fired || b) (or_false (same_choice c d))

-- the tags of a row were given where those of all elements were
pub tags_below : (next : ℕ) (came : List Element) (row : List ℕ) → AllByRecursion (λ (e : Element). e.tag < next) came → AllByRecursion (λ tag. tag < next) (tags_at came row)
tags_below next came row below =
    Each-map (λ tag. tag < next) (λ (e : Element). e.tag) (elements_of came row)
    (Each-filter_map (λ (e : Element). e.tag < next) (slice_get came) row (λ p e at. Each-slice_get (λ (x : Element). x.tag < next) came p e below at))

-- a row with a place has the tag of its element
tag_first : (place p : ℕ) (e : Element) (found : Option Element) (rest : List Element) (came : List Element) → slice_get came p ≡ found → slice_get came place ≡ Some e → (p == place) ≡ true → has_number (map (λ (x : Element). x.tag) (cons_option found rest)) e.tag ≡ true
tag_first place p e None rest came at there same =
    let wrong : None ≡ Some e = sym at ∙ ap (slice_get came) (eqb-true p place same) ∙ there in
    absurd (let clash : ⊥ = cc in clash)
tag_first place p e (Some x) rest came at there same =
    let both : Some x ≡ Some e = sym at ∙ ap (slice_get came) (eqb-true p place same) ∙ there in
    let this : x ≡ e = cc in
    or_left (x.tag == e.tag) (has_number (map (λ (y : Element). y.tag) rest) e.tag) (eq-eqb x.tag e.tag (ap (λ (y : Element). y.tag) this))

tag_later : (e : Element) (found : Option Element) (rest : List Element) → has_number (map (λ (x : Element). x.tag) rest) e.tag ≡ true → has_number (map (λ (x : Element). x.tag) (cons_option found rest)) e.tag ≡ true
tag_later e None rest has = has
tag_later e (Some x) rest has = or_right (x.tag == e.tag) (has_number (map (λ (y : Element). y.tag) rest) e.tag) has

pub has_tag_of : (came : List Element) (row : List ℕ) (place : ℕ) (e : Element) → slice_get came place ≡ Some e → has_number row place ≡ true → has_number (tags_at came row) e.tag ≡ true
has_tag_of came [] place e there has = absurd (let wrong : ⊥ = cc in wrong)
has_tag_of came (p ∷ row) place e there has =
    elim (or_cases (p == place) (has_number row place) has) [
      | inl same ↦ tag_first place p e (slice_get came p) (elements_of came row) came refl there same
      | inr later ↦ tag_later e (slice_get came p) (elements_of came row) (has_tag_of came row place e there later)
    ]

-- a choice with a tag that wasn't given yet isn't fired
pub unfired-new : (next tag : ℕ) (c : Choice) (fired : List Choice) → AllByRecursion (λ (d : Choice). AllByRecursion (λ t. t < next) d.tags) fired → next ≤ tag → has_number c.tags tag ≡ true → list_any (same_choice c) fired ≡ false
unfired-new next tag c fired below le has =
    false_from_ne_true (list_any (same_choice c) fired)
    (λ any. let lt : tag < next = Each-has (λ t. t < next) c.tags tag (Each-same (λ (d : Choice). AllByRecursion (λ t. t < next) d.tags) c fired below any) has in omega (arith, lt, le))
