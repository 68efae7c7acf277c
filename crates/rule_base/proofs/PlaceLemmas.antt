-- Elements in flat arrays: values that are added hide none, and places that are left or moved lead to their elements.
use Rattle.std.proofs.Common.{◌≡◌, ℕ, ◌+◌, ◌≤◌, ◌==◌, List, [], ◌∷◌, ◌++◌, Bool, true, false, cond, not, length, map, drop, take, zero, suc, refl, sym, ◌∙◌, ap, subst, arith, length-append}
use Rattle.std.specs.List.{list_any}
use Rattle.std.proofs.lemmas.List.{map-append}
use Rattle.rule_base.specs.declared.value.Value.{Value}
use Rattle.rule_base.specs.declared.element.Element.{Element}
use Rattle.rule_base.specs.declared.elements.Place.{Place}
use Rattle.rule_base.specs.Places.{AreWithin, IsWithin, element_of, elements_in, places_without, moved_by}
use Rattle.rule_base.specs.Step.{without}
use Rattle.rule_base.proofs.EachLemmas.{Each-append, Each-filter}

-- the first values of a list stay the first where more follow
take_before : {X : Type 0} (n : ℕ) (xs ys : List X) → n ≤ length xs → take n (xs ++ ys) ≡ take n xs
take_before zero xs ys within = refl
take_before (suc n) [] ys within = absurd (omega (arith, within))
take_before (suc n) (x ∷ xs) ys within = ap (λ rest. x ∷ rest) (take_before n xs ys (omega (arith, within)))

piece_before : {X : Type 0} (start size : ℕ) (xs ys : List X) → start + size ≤ length xs → take size (drop start (xs ++ ys)) ≡ take size (drop start xs)
piece_before zero size xs ys within = take_before size xs ys (omega (arith, within))
piece_before (suc start) size [] ys within = absurd (omega (arith, within))
piece_before (suc start) size (x ∷ xs) ys within = piece_before start size xs ys (omega (arith, within))

-- values behind a list are those of what follows
drop_behind : {X : Type 0} (n : ℕ) (xs ys : List X) → drop (length xs + n) (xs ++ ys) ≡ drop n ys
drop_behind n [] ys = ap (λ m. drop m ys) (let same : 0 + n ≡ n = omega arith in same)
drop_behind n (x ∷ xs) ys = ap (λ m. drop m ((x ∷ xs) ++ ys)) (let same : length (x ∷ xs) + n ≡ suc (length xs + n) = omega arith in same) ∙ drop_behind n xs ys

same_element : (tag class : ℕ) (xs ys : List Value) → xs ≡ ys → ◌≡◌ {A = Element} (record { tag = tag; class = class; values = xs }) (record { tag = tag; class = class; values = ys })
same_element tag class xs ys same = ap (λ values. let e : Element = record { tag = tag; class = class; values = values } in e) same

-- elements stay the same where more values follow
pub elements_in-more : (values more : List Value) (places : List Place) → AreWithin values places → elements_in (values ++ more) places ≡ elements_in values places
elements_in-more values more [] within = refl
elements_in-more values more (place ∷ places) within =
    let here : element_of (values ++ more) place ≡ element_of values place = same_element place.tag place.class _ _ (piece_before place.start place.size values more within.0) in
    ap (λ e. e ∷ elements_in (values ++ more) places) here ∙ ap (λ es. element_of values place ∷ es) (elements_in-more values more places within.1)

-- and those of a list that follows are at the places moved behind
pub elements_in-moved : (values more : List Value) (places : List Place) → elements_in (values ++ more) (map (moved_by (length values)) places) ≡ elements_in more places
elements_in-moved values more [] = refl
elements_in-moved values more (place ∷ places) =
    let here : element_of (values ++ more) (moved_by (length values) place) ≡ element_of more place = same_element place.tag place.class _ _ (ap (take place.size) (drop_behind place.start values more)) in
    ap (λ e. e ∷ elements_in (values ++ more) (map (moved_by (length values)) places)) here ∙ ap (λ es. element_of more place ∷ es) (elements_in-moved values more places)

-- the places that are left are those of the elements that are left
left_first : (values : List Value) (b : Bool) (place : Place) (places : List Place) (rest : List Element) → elements_in values places ≡ rest → elements_in values (cond b (place ∷ places) places) ≡ cond b (element_of values place ∷ rest) rest
left_first values true place places rest same = ap (λ es. element_of values place ∷ es) same
left_first values false place places rest same = same

pub elements_in-left : (values : List Value) (places : List Place) (tags : List ℕ) → elements_in values (places_without places tags) ≡ without (elements_in values places) tags
elements_in-left values [] tags = refl
elements_in-left values (place ∷ places) tags = left_first values (not (list_any (λ tag. tag == place.tag) tags)) place (places_without places tags) (without (elements_in values places) tags) (elements_in-left values places tags)

-- all values are still there where more follow
pub AreWithin-more : (values more : List Value) (places : List Place) → AreWithin values places → AreWithin (values ++ more) places
AreWithin-more values more [] within = tt
AreWithin-more values more (place ∷ places) within = (omega (arith, within.0, length-append values more), AreWithin-more values more places within.1)

AreWithin-moved : (values more : List Value) (places : List Place) → AreWithin more places → AreWithin (values ++ more) (map (moved_by (length values)) places)
AreWithin-moved values more [] within = tt
AreWithin-moved values more (place ∷ places) within = (omega (arith, within.0, length-append values more), AreWithin-moved values more places within.1)

-- the elements after a change
elements_in-change : (values more : List Value) (places others : List Place) (tags : List ℕ) → AreWithin values places → elements_in (values ++ more) (places_without places tags ++ map (moved_by (length values)) others) ≡ without (elements_in values places) tags ++ elements_in more others
elements_in-change values more places others tags within =
    map-append (element_of (values ++ more)) (places_without places tags) (map (moved_by (length values)) others)
    ∙ ap (λ es. es ++ elements_in (values ++ more) (map (moved_by (length values)) others)) (elements_in-left (values ++ more) places tags ∙ ap (λ es. without es tags) (elements_in-more values more places within))
    ∙ ap (λ es. without (elements_in values places) tags ++ es) (elements_in-moved values more others)

AreWithin-change : (values more : List Value) (places others : List Place) (tags : List ℕ) → AreWithin values places → AreWithin more others → AreWithin (values ++ more) (places_without places tags ++ map (moved_by (length values)) others)
AreWithin-change values more places others tags within more_within =
    Each-append (IsWithin (values ++ more)) (places_without places tags) (map (moved_by (length values)) others) (Each-filter (IsWithin (values ++ more)) (λ (place : Place). not (list_any (λ tag. tag == place.tag) tags)) places (AreWithin-more values more places within)) (AreWithin-moved values more others more_within)

-- and after an element more
elements_in-push : (values more : List Value) (places : List Place) (place : Place) → AreWithin values places → place.start ≡ length values → place.size ≡ length more → elements_in (values ++ more) (places ++ place ∷ []) ≡ elements_in values places ++ record { tag = place.tag; class = place.class; values = more } ∷ []
elements_in-push values more places place within start size =
    let all : take (length more) more ≡ more = take_all more in
    let here : take place.size (drop place.start (values ++ more)) ≡ more = ap (λ n. take n (drop place.start (values ++ more))) size ∙ ap (λ n. take (length more) (drop n (values ++ more))) (start ∙ (let same : length values ≡ length values + 0 = omega arith in same)) ∙ ap (take (length more)) (drop_behind 0 values more) ∙ all in
    map-append (element_of (values ++ more)) places (place ∷ [])
    ∙ ap (λ es. es ++ element_of (values ++ more) place ∷ []) (elements_in-more values more places within)
    ∙ ap (λ e. elements_in values places ++ e ∷ []) (same_element place.tag place.class _ _ here)
  where
    take_all : {X : Type 0} (xs : List X) → take (length xs) xs ≡ xs
    take_all [] = refl
    take_all (x ∷ xs) = ap (λ rest. x ∷ rest) (take_all xs)

-- the same, of what the arrays have become
pub elements_in-pushed : (values more now : List Value) (places after : List Place) (place : Place) → AreWithin values places → now ≡ values ++ more → after ≡ places ++ place ∷ [] → place.start ≡ length values → place.size ≡ length more → elements_in now after ≡ elements_in values places ++ record { tag = place.tag; class = place.class; values = more } ∷ []
elements_in-pushed values more now places after place within now_is after_is start size =
    ap (λ vs. elements_in vs after) now_is ∙ ap (elements_in (values ++ more)) after_is ∙ elements_in-push values more places place within start size

pub elements_in-changed : (values more now : List Value) (places others after : List Place) (tags : List ℕ) → AreWithin values places → now ≡ values ++ more → after ≡ places_without places tags ++ map (moved_by (length values)) others → elements_in now after ≡ without (elements_in values places) tags ++ elements_in more others
elements_in-changed values more now places others after tags within now_is after_is =
    ap (λ vs. elements_in vs after) now_is ∙ ap (elements_in (values ++ more)) after_is ∙ elements_in-change values more places others tags within

pub AreWithin-changed : (values more now : List Value) (places others after : List Place) (tags : List ℕ) → AreWithin values places → AreWithin more others → now ≡ values ++ more → after ≡ places_without places tags ++ map (moved_by (length values)) others → AreWithin now after
AreWithin-changed values more now places others after tags within more_within now_is after_is =
    subst (λ vs. AreWithin vs after) (sym now_is) (subst (AreWithin (values ++ more)) (sym after_is) (AreWithin-change values more places others tags within more_within))
