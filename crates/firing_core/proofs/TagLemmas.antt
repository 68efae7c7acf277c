-- Elements whose tags rise, and where the one with a tag lies.
use Rattle.std.proofs.Common.{◌≡◌, ℕ, ◌+◌, ◌<◌, ◌≤◌, List, [], ◌∷◌, ◌++◌, Bool, true, false, cond, Option, None, Some, drop, eqb, slice_get, suc, take, zero, refl, ap, subst, sym, arith, rules, tests}
use Rattle.rule_base.specs.declared.element.Element.{Element}
use Rattle.rule_base.specs.Memory.{Rises, RisesFrom, element_at, tags_of}
use Rattle.rule_base.proofs.MemoryLemmas.{Rises-from_above}

-- no tag that isn't above where they rise from is an element's
absent_above : (tag low : ℕ) (elements : List Element) → tag ≤ low → RisesFrom low (tags_of elements) → element_at elements tag ≡ None
absent_above tag low [] le rises = refl
absent_above tag low (e ∷ elements) le rises =
    let differs : eqb e.tag tag ≡ false = search (rules, tests, rises.0, le) in
    rw differs (absent_above tag e.tag elements (omega (arith, le, rises.0)) rises.1)

-- each rises above that number
rises_above : (low place : ℕ) (elements : List Element) (e : Element) → RisesFrom low (tags_of elements) → slice_get elements place ≡ Some e → low < e.tag
rises_above low place [] e rises is = absurd (let wrong : ⊥ = cc in wrong)
rises_above low zero (x ∷ elements) e rises is = let same : x ≡ e = cc in subst (λ (y : Element). low < y.tag) same rises.0
rises_above low (suc place) (x ∷ elements) e rises is = omega (arith, rises.0, rises_above x.tag place elements e rises.1 is)

-- none up to an element with a smaller tag has the tag
absent_before : (tag place : ℕ) (elements : List Element) (e : Element) → Rises (tags_of elements) → slice_get elements place ≡ Some e → e.tag < tag → element_at (take (suc place) elements) tag ≡ None
absent_before tag place [] e rises is lt = absurd (let wrong : ⊥ = cc in wrong)
absent_before tag zero (x ∷ elements) e rises is lt =
    let same : x ≡ e = cc in
    let below : x.tag < tag = subst (λ (y : Element). y.tag < tag) (sym same) lt in
    let differs : eqb x.tag tag ≡ false = search (rules, tests, below) in
    rw differs refl
absent_before tag (suc place) (x ∷ elements) e rises is lt =
    let above = rises_above x.tag place elements e rises is in
    let below : x.tag < tag = omega (arith, above, lt) in
    let differs : eqb x.tag tag ≡ false = search (rules, tests, below) in
    rw differs (absent_before tag place elements e (Rises-from_above x.tag (tags_of elements) rises) is lt)

pub absent-take : (tag place : ℕ) (elements : List Element) (e : Element) → Rises (tags_of elements) → slice_get elements place ≡ Some e → e.tag < tag → element_at (take (place + 1) elements) tag ≡ None
absent-take tag place elements e rises is lt =
    let next : suc place ≡ place + 1 = omega arith in
    subst (λ n. element_at (take n elements) tag ≡ None) next (absent_before tag place elements e rises is lt)

-- and none from an element with a greater tag on
pub absent-drop : (tag place : ℕ) (elements : List Element) (e : Element) → Rises (tags_of elements) → slice_get elements place ≡ Some e → tag < e.tag → element_at (drop place elements) tag ≡ None
absent-drop tag place [] e rises is lt = absurd (let wrong : ⊥ = cc in wrong)
absent-drop tag zero (x ∷ elements) e rises is lt =
    let same : x ≡ e = cc in
    let above : tag < x.tag = subst (λ (y : Element). tag < y.tag) (sym same) lt in
    let differs : eqb x.tag tag ≡ false = search (rules, tests, above) in
    rw differs (absent_above tag x.tag elements (omega (arith, above)) rises)
absent-drop tag (suc place) (x ∷ elements) e rises is lt = absent-drop tag place elements e (Rises-from_above x.tag (tags_of elements) rises) is lt

-- none has it where none of both parts has
absent_step : (b : Bool) (x : Element) (o p : Option Element) → cond b (Some x) o ≡ None → (o ≡ None → p ≡ None) → cond b (Some x) p ≡ None
absent_step true x o p none later = none
absent_step false x o p none later = later none

pub absent-append : (tag : ℕ) (xs ys : List Element) → element_at xs tag ≡ None → element_at ys tag ≡ None → element_at (xs ++ ys) tag ≡ None
absent-append tag [] ys none rest = rest
absent-append tag (x ∷ xs) ys none rest = absent_step (eqb x.tag tag) x (element_at xs tag) (element_at (xs ++ ys) tag) none (λ none'. absent-append tag xs ys none' rest)

take_drop : {X : Type 0} (n : ℕ) (xs : List X) → take n xs ++ drop n xs ≡ xs
take_drop zero xs = refl
take_drop (suc n) [] = refl
take_drop (suc n) (x ∷ xs) = ap (λ rest. x ∷ rest) (take_drop n xs)

pub absent-parts : (tag place : ℕ) (elements : List Element) → element_at (take place elements) tag ≡ None → element_at (drop place elements) tag ≡ None → element_at elements tag ≡ None
absent-parts tag place elements before behind =
    subst (λ es. element_at es tag ≡ None) (take_drop place elements) (absent-append tag (take place elements) (drop place elements) before behind)

-- two places of elements with the same tag are the same
pub same_place : (p q : ℕ) (elements : List Element) (x y : Element) → Rises (tags_of elements) → slice_get elements p ≡ Some x → slice_get elements q ≡ Some y → x.tag ≡ y.tag → p ≡ q
same_place p q [] x y rises of_x of_y same = absurd (let wrong : ⊥ = cc in wrong)
same_place zero zero (e ∷ elements) x y rises of_x of_y same = refl
same_place zero (suc q) (e ∷ elements) x y rises of_x of_y same =
    let is : e ≡ x = cc in
    let tag_is : e.tag ≡ x.tag = ap (λ (z : Element). z.tag) is in
    absurd (omega (arith, tag_is, same, rises_above e.tag q elements y rises of_y))
same_place (suc p) zero (e ∷ elements) x y rises of_x of_y same =
    let is : e ≡ y = cc in
    let tag_is : e.tag ≡ y.tag = ap (λ (z : Element). z.tag) is in
    absurd (omega (arith, tag_is, same, rises_above e.tag p elements x rises of_x))
same_place (suc p) (suc q) (e ∷ elements) x y rises of_x of_y same = ap suc (same_place p q elements x y (Rises-from_above e.tag (tags_of elements) rises) of_x of_y same)
