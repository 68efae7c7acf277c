-- Tags that rise: those before a smaller one and after a larger one differ.
use Rattle.std.proofs.Common.{◌≡◌, ℕ, ◌+◌, ◌-◌, ◌/◌, ◌<◌, ◌≤◌, ◌==◌, List, [], ◌∷◌, ◌++◌, Bool, true, false, not, ◌||◌, ◌⊎◌, inl, inr, Option, Some, None, length, slice_get, zero, suc, refl, ap, sym, ◌∙◌, arith, subst, length-append, ◌^◌}
use Rattle.std.specs.List.{AllByRecursion, filter, list_any}
use Rattle.std.proofs.lemmas.Bool.{cases_lt, cases_order, eq-eqb, eqb-true, ne_eqb}
use Rattle.std.proofs.lemmas.List.{map-append}
use Rattle.rule_base.specs.declared.element.Element.{Element}
use Rattle.rule_base.specs.Memory.{Rises, RisesFrom, tags_of}
use Rattle.rule_base.proofs.EachLemmas.{Each-always, Each-append, Each-filter, Each-map, Each-weaker}
use Rattle.working_memory.proofs.PlaceLemmas.{Rises-above, Rises-filter, Rises-push, filter-agree, filter-all}
use Rattle.rule_base.specs.Numbers.{has_number}
use Rattle.match_network.specs.Arrivals.{Arrivals, HaveArrived, has_tag, without_tag}
use Rattle.match_network.specs.Row.{some_passes}

tag_above : (low : ℕ) (es : List Element) (k : ℕ) (e : Element) → RisesFrom low (tags_of es) → slice_get es k ≡ Some e → low + k < e.tag
tag_above low [] k e rises at = absurd (let wrong : ⊥ = cc in wrong)
tag_above low (f ∷ es) zero e rises at = let same : f ≡ e = cc in omega (arith, rises.0, ap (λ (x : Element). x.tag) same)
tag_above low (f ∷ es) (suc k) e rises at = omega (arith, rises.0, tag_above f.tag es k e rises.1 at)

-- tags are at least as far apart as their places
pub tags_apart : (es : List Element) (i k : ℕ) (e f : Element) → Rises (tags_of es) → slice_get es i ≡ Some e → slice_get es (i + k) ≡ Some f → e.tag + k ≤ f.tag
tags_apart [] i k e f rises at after = absurd (let wrong : ⊥ = cc in wrong)
tags_apart (g ∷ es) zero zero e f rises at after =
    let first : g ≡ e = cc in
    let second : Some g ≡ Some f = ap (slice_get (g ∷ es)) (let same : 0 ≡ 0 + 0 = omega arith in same) ∙ after in
    let third : g ≡ f = cc in
    omega (arith, ap (λ (x : Element). x.tag) first, ap (λ (x : Element). x.tag) third)
tags_apart (g ∷ es) zero (suc k) e f rises at after =
    let first : g ≡ e = cc in
    let second : slice_get es k ≡ Some f = ap (slice_get (g ∷ es)) (let same : suc k ≡ 0 + suc k = omega arith in same) ∙ after in
    omega (arith, ap (λ (x : Element). x.tag) first, tag_above g.tag es k f rises second)
tags_apart (g ∷ es) (suc i) k e f rises at after =
    let second : slice_get es (i + k) ≡ Some f = ap (slice_get (g ∷ es)) (let same : suc (i + k) ≡ suc i + k = omega arith in same) ∙ after in
    tags_apart es i k e f (Rises-above g.tag (tags_of es) rises) at second

differs : (e : Element) (tag : ℕ) → (e.tag ≡ tag → ⊥) → (found : Option Element) → found ≡ Some e → some_passes (λ (x : Element). x.tag == tag) found ≡ false
differs e tag apart found is = ap (some_passes (λ (x : Element). x.tag == tag)) is ∙ ne_eqb e.tag tag apart

-- where the tag at a place is smaller than at its distance, the one looked for is not before it
before_step : (es : List Element) (tag middle place : ℕ) (e : Element) (found : Option Element) → slice_get es place ≡ found → Rises (tags_of es) → slice_get es middle ≡ Some e → e.tag < tag + (middle - place) → place ≤ middle → some_passes (λ (x : Element). x.tag == tag) found ≡ false
before_step es tag middle place e None is rises at lt le = refl
before_step es tag middle place e (Some f) is rises at lt le =
    let apart = tags_apart es place (middle - place) f e rises is (ap (slice_get es) (let same : place + (middle - place) ≡ middle = omega (arith, le) in same) ∙ at) in
    ne_eqb f.tag tag (λ same. omega (arith, same, apart, lt))

pub not_before : (es : List Element) (tag middle place : ℕ) (e : Element) → Rises (tags_of es) → slice_get es middle ≡ Some e → e.tag < tag + (middle - place) → place ≤ middle → has_tag es tag place ≡ false
not_before es tag middle place e rises at lt le = before_step es tag middle place e (slice_get es place) refl rises at lt le

-- where it is larger, not after it
after_step : (es : List Element) (tag middle place : ℕ) (e : Element) (found : Option Element) → slice_get es place ≡ found → Rises (tags_of es) → slice_get es middle ≡ Some e → tag < e.tag + (place - middle) → middle ≤ place → some_passes (λ (x : Element). x.tag == tag) found ≡ false
after_step es tag middle place e None is rises at lt le = refl
after_step es tag middle place e (Some f) is rises at lt le =
    let apart = tags_apart es middle (place - middle) e f rises at (ap (slice_get es) (let same : middle + (place - middle) ≡ place = omega (arith, le) in same) ∙ is) in
    ne_eqb f.tag tag (λ same. omega (arith, same, apart, lt))

pub not_after : (es : List Element) (tag middle place : ℕ) (e : Element) → Rises (tags_of es) → slice_get es middle ≡ Some e → tag < e.tag + (place - middle) → middle ≤ place → has_tag es tag place ≡ false
not_after es tag middle place e rises at lt le = after_step es tag middle place e (slice_get es place) refl rises at lt le

-- no element has the tag past the last
pub not_past : (es : List Element) (tag place : ℕ) → length es ≤ place → has_tag es tag place ≡ false
not_past [] tag place le = refl
not_past (e ∷ es) tag zero le = absurd (omega (arith, le))
not_past (e ∷ es) tag (suc place) le = not_past es tag place (omega (arith, le))

-- a tag above all others
pub tags-push : (es : List Element) (e : Element) → Rises (tags_of es) → AllByRecursion (λ (f : Element). f.tag < e.tag) es → Rises (tags_of (es ++ e ∷ []))
tags-push es e rises above =
    subst Rises (sym (map-append (λ (x : Element). x.tag) es (e ∷ [])))
    (Rises-push e.tag (tags_of es) rises (Each-map (λ t. t < e.tag) (λ (x : Element). x.tag) es above))

-- what is left where one halves: the tag is neither before nor after, and a place there is looked at
pub record IsLeft (es : List Element) (tag low high middle : ℕ) : Type 0 where
  pub before : (place : ℕ) → place < low → has_tag es tag place ≡ false
  pub after : (place : ℕ) → high ≤ place → has_tag es tag place ≡ false
  pub within : high ≤ length es
  pub left : low < high → (low ≤ middle) × (middle < high)
  pub order : low ≤ high

pub left_behind : (es : List Element) (tag low high middle : ℕ) (e : Element) → Rises (tags_of es) → low < high → slice_get es middle ≡ Some e → e.tag < tag → IsLeft es tag low high middle → IsLeft es tag (middle + 1) high ((middle + 1) + (high - (middle + 1)) / 2)
left_behind es tag low high middle e rises some at lt is = record {
  before = λ place under. not_before es tag middle place e rises at (omega (arith, lt)) (omega (arith, under));
  after = is.after;
  within = is.within;
  left = λ more. (omega arith, omega (arith, more));
  order = omega (arith, is.left some);
}

pub left_ahead : (es : List Element) (tag low high middle : ℕ) (e : Element) → Rises (tags_of es) → low < high → slice_get es middle ≡ Some e → tag < e.tag → IsLeft es tag low high middle → IsLeft es tag low middle (low + (middle - low) / 2)
left_ahead es tag low high middle e rises some at lt is = record {
  before = is.before;
  after = λ place over. not_after es tag middle place e rises at (omega (arith, lt)) over;
  within = omega (arith, is.left some, is.within);
  left = λ more. (omega arith, omega (arith, more));
  order = omega (arith, is.left some);
}

-- only one place has the tag
pub record Tagged (es : List Element) (tag place : ℕ) : Type 0 where
  pub element : Element
  pub at : slice_get es place ≡ Some element
  pub tagged : element.tag ≡ tag

tagged_step : (es : List Element) (tag place : ℕ) (found : Option Element) → slice_get es place ≡ found → some_passes (λ (x : Element). x.tag == tag) found ≡ true → Tagged es tag place
tagged_step es tag place None is has = absurd (let wrong : ⊥ = cc in wrong)
tagged_step es tag place (Some e) is has = record { element = e; at = is; tagged = eqb-true e.tag tag has }

pub has_tag_only : (es : List Element) (tag place other : ℕ) → Rises (tags_of es) → has_tag es tag place ≡ true → has_tag es tag other ≡ (other == place)
has_tag_only es tag place other rises has =
    let there = tagged_step es tag place (slice_get es place) refl has in
    elim (cases_order other place) [
      | inl same ↦ ap (has_tag es tag) same ∙ has ∙ sym (eq-eqb other place same)
      | inr apart ↦ elim apart [
        | inl lt ↦ not_before es tag place other there.element rises there.at (omega (arith, lt, there.tagged)) (omega (arith, lt)) ∙ sym (ne_eqb other place (λ same. omega (arith, same, lt)))
        | inr lt ↦ not_after es tag place other there.element rises there.at (omega (arith, lt, there.tagged)) (omega (arith, lt)) ∙ sym (ne_eqb other place (λ same. omega (arith, same, lt)))
      ]
    ]

pub only_one_goes : (es : List Element) (tag place : ℕ) (places : List ℕ) → Rises (tags_of es) → has_tag es tag place ≡ true → filter (λ p. not (has_tag es tag p)) places ≡ filter (λ p. not (p == place)) places
only_one_goes es tag place places rises has =
    filter-agree (λ p. not (has_tag es tag p)) (λ p. not (p == place)) places (Each-always (λ p. not (has_tag es tag p) ≡ not (p == place)) (λ p. ap not (has_tag_only es tag place p rises has)) places)

any_agree : (f g : ℕ → Bool) → ((p : ℕ) → f p ≡ g p) → (places : List ℕ) → list_any f places ≡ list_any g places
any_agree f g agree [] = refl
any_agree f g agree (p ∷ places) = ap (λ b. b || list_any f places) (agree p) ∙ ap (λ b. g p || b) (any_agree f g agree places)

pub any_has_tag : (es : List Element) (tag place : ℕ) (places : List ℕ) → Rises (tags_of es) → has_tag es tag place ≡ true → list_any (has_tag es tag) places ≡ has_number places place
any_has_tag es tag place places rises has = any_agree (has_tag es tag) (λ p. p == place) (λ p. has_tag_only es tag place p rises has) places

-- or none
pub none_goes : (es : List Element) (tag : ℕ) (places : List ℕ) → ((place : ℕ) → has_tag es tag place ≡ false) → filter (λ p. not (has_tag es tag p)) places ≡ places
none_goes es tag places none = filter-all (λ p. not (has_tag es tag p)) places (Each-always (λ p. not (has_tag es tag p) ≡ true) (λ p. ap not (none p)) places)

pub none_has_tag : (es : List Element) (tag : ℕ) (places : List ℕ) → ((place : ℕ) → has_tag es tag place ≡ false) → list_any (has_tag es tag) places ≡ false
none_has_tag es tag [] none = refl
none_has_tag es tag (p ∷ places) none = ap (λ b. b || list_any (has_tag es tag) places) (none p) ∙ none_has_tag es tag places none

-- what has arrived once one more came, or one went
pub HaveArrived-push : (came : List Element) (places : List ℕ) (count : ℕ) (e : Element) → HaveArrived came places count → length came + 1 < 2 ^ 32 → AllByRecursion (λ (f : Element). f.tag < e.tag) came → HaveArrived (came ++ e ∷ []) (places ++ count ∷ []) (count + 1)
HaveArrived-push came places count e held few above = record {
  counted = omega (arith, length-append came (e ∷ []), held.counted);
  few = omega (arith, few, length-append came (e ∷ []));
  tags = tags-push came e held.tags above;
  rising = Rises-push count places held.rising (Each-weaker (λ p. p < length came) (λ p. p < count) (λ p lt. omega (arith, lt, held.counted)) places held.below);
  below = Each-append (λ p. p < length (came ++ e ∷ [])) places (count ∷ [])
      (Each-weaker (λ p. p < length came) (λ p. p < length (came ++ e ∷ [])) (λ p lt. omega (arith, lt, length-append came (e ∷ []))) places held.below)
      (omega (arith, held.counted, length-append came (e ∷ [])), tt);
}

pub HaveArrived-filter : (came : List Element) (places : List ℕ) (count : ℕ) (keep : ℕ → Bool) → HaveArrived came places count → HaveArrived came (filter keep places) count
HaveArrived-filter came places count keep held = record {
  counted = held.counted;
  few = held.few;
  tags = held.tags;
  rising = Rises-filter keep places held.rising;
  below = Each-filter (λ p. p < length came) keep places held.below;
}

-- a place with a tag is one of an element that came
within_step : (es : List Element) (tag place : ℕ) → has_tag es tag place ≡ true → (place < length es) ⊎ (length es ≤ place) → place < length es
within_step es tag place has (inl lt) = lt
within_step es tag place has (inr le) = absurd (let gone = not_past es tag place le in let wrong : ⊥ = cc in wrong)

pub has_tag-within : (es : List Element) (tag place : ℕ) → has_tag es tag place ≡ true → place < length es
has_tag-within es tag place has = within_step es tag place has (cases_lt place (length es))

-- what is left once the place of a tag was taken out of memory
pub left_places : (es : List Element) (tag place : ℕ) (places left : List ℕ) → Rises (tags_of es) → has_tag es tag place ≡ true → left ≡ filter (λ p. not (p == place)) places → ◌≡◌ {A = Arrivals} (record { came = es; places = left }) (without_tag (record { came = es; places = places }) tag)
left_places es tag place places left rises has is = ap (λ ps. let a : Arrivals = record { came = es; places = ps } in a) (is ∙ sym (only_one_goes es tag place places rises has))

pub left_all : (es : List Element) (tag : ℕ) (places : List ℕ) → ((place : ℕ) → has_tag es tag place ≡ false) → ◌≡◌ {A = Arrivals} (record { came = es; places = places }) (without_tag (record { came = es; places = places }) tag)
left_all es tag places none = ap (λ ps. let a : Arrivals = record { came = es; places = ps } in a) (sym (none_goes es tag places none))

pub still_arrived : (came : List Element) (places left : List ℕ) (count : ℕ) (place after : ℕ) → HaveArrived came places count → left ≡ filter (λ p. not (p == place)) places → after ≡ count → HaveArrived came left after
still_arrived came places left count place after held is same =
    subst (λ n. HaveArrived came left n) (sym same) (subst (λ ps. HaveArrived came ps count) (sym is) (HaveArrived-filter came places count (λ p. not (p == place)) held))

pub one_more_arrived : (came now : List Element) (places more : List ℕ) (count : ℕ) (e : Element) (after : ℕ) → HaveArrived came places count → length came + 1 < 2 ^ 32 → AllByRecursion (λ (f : Element). f.tag < e.tag) came → now ≡ came ++ e ∷ [] → more ≡ places ++ count ∷ [] → after ≡ count + 1 → HaveArrived now more after
one_more_arrived came now places more count e after held few above is more_is after_is =
    subst (λ n. HaveArrived now more n) (sym after_is) (subst (λ ps. HaveArrived now ps (count + 1)) (sym more_is) (subst (λ es. HaveArrived es (places ++ count ∷ []) (count + 1)) (sym is) (HaveArrived-push came places count e held few above)))
