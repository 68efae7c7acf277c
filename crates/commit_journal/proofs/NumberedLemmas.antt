-- Elements with consecutive tags: how many there are, each of them, and one more.
use Rattle.std.proofs.Common.{◌≡◌, ℕ, ◌+◌, ◌<◌, ◌≤◌, List, [], ◌∷◌, ◌++◌, Some, None, true, false, eqb, rules, subst, tests, length, drop, take, slice_get, zero, suc, refl, ◌∙◌, ap, arith}
use Rattle.rule_base.specs.declared.value.Value.{Value}
use Rattle.rule_base.specs.declared.element.Element.{Element}
use Rattle.std.proofs.lemmas.List.Sums.{sum_by-cons}
use Rattle.rule_base.specs.Memory.{element_at, value_count}
use Rattle.commit_journal.specs.Newborns.{numbered}

-- the element with this tag, this class and these values
abbrev pub element : ℕ → ℕ → List Value → Element
element tag class values = record { tag = tag; class = class; values = values }

pub length-numbered : (tag : ℕ) (classes : List ℕ) (lists : List (List Value)) → length lists ≡ length classes → length (numbered tag classes lists) ≡ length classes
length-numbered tag [] lists same = refl
length-numbered tag (class ∷ classes) [] same = absurd (omega (arith, same))
length-numbered tag (class ∷ classes) (values ∷ lists) same = ap suc (length-numbered (tag + 1) classes lists (omega (arith, same)))

pub slice_get-numbered : (tag : ℕ) (classes : List ℕ) (lists : List (List Value)) (place class : ℕ) (values : List Value) → slice_get classes place ≡ Some class → slice_get lists place ≡ Some values → slice_get (numbered tag classes lists) place ≡ Some (element (tag + place) class values)
slice_get-numbered tag [] lists place class values of_class of_values = absurd (let wrong : ⊥ = cc in wrong)
slice_get-numbered tag (c ∷ classes) [] place class values of_class of_values = absurd (let wrong : ⊥ = cc in wrong)
slice_get-numbered tag (c ∷ classes) (vs ∷ lists) zero class values of_class of_values =
    let same_class : c ≡ class = cc in
    let same_values : vs ≡ values = cc in
    let same_tag : tag ≡ tag + 0 = omega arith in
    ap (λ t. Some (element t c vs)) same_tag ∙ ap (λ d. Some (element (tag + 0) d vs)) same_class ∙ ap (λ v. Some (element (tag + 0) class v)) same_values
slice_get-numbered tag (c ∷ classes) (vs ∷ lists) (suc place) class values of_class of_values =
    let same_tag : tag + 1 + place ≡ tag + suc place = omega arith in
    slice_get-numbered (tag + 1) classes lists place class values of_class of_values ∙ ap (λ t. Some (element t class values)) same_tag

pub numbered-push : (tag : ℕ) (classes : List ℕ) (lists : List (List Value)) (class : ℕ) (values : List Value) → length lists ≡ length classes → numbered tag (classes ++ class ∷ []) (lists ++ values ∷ []) ≡ numbered tag classes lists ++ element (tag + length classes) class values ∷ []
numbered-push tag [] [] class values same = let same_tag : tag ≡ tag + 0 = omega arith in ap (λ t. element t class values ∷ []) same_tag
numbered-push tag [] (vs ∷ lists) class values same = absurd (omega (arith, same))
numbered-push tag (c ∷ classes) [] class values same = absurd (omega (arith, same))
numbered-push tag (c ∷ classes) (vs ∷ lists) class values same =
    let same_tag : tag + 1 + length classes ≡ tag + suc (length classes) = omega arith in
    ap (λ rest. element tag c vs ∷ rest) (numbered-push (tag + 1) classes lists class values (omega (arith, same)) ∙ ap (λ t. numbered (tag + 1) classes lists ++ element t class values ∷ []) same_tag)

-- the values of an element and of those behind it
pub value_count-cons : (e : Element) (elements : List Element) → value_count (e ∷ elements) ≡ length e.values + value_count elements
value_count-cons e elements = sum_by-cons (λ (x : Element). length x.values) e elements

-- each element is found at its tag
pub element_at-numbered : (first : ℕ) (classes : List ℕ) (lists : List (List Value)) (place : ℕ) (e : Element) → slice_get (numbered first classes lists) place ≡ Some e → element_at (numbered first classes lists) (first + place) ≡ Some e
element_at-numbered first [] lists place e is = absurd (let wrong : ⊥ = cc in wrong)
element_at-numbered first (class ∷ classes) [] place e is = absurd (let wrong : ⊥ = cc in wrong)
element_at-numbered first (class ∷ classes) (values ∷ lists) zero e is =
    let same : eqb first (first + 0) ≡ true = search (rules, tests) in
    rw same is
element_at-numbered first (class ∷ classes) (values ∷ lists) (suc place) e is =
    let differs : eqb first (first + suc place) ≡ false = search (rules, tests) in
    let next : first + 1 + place ≡ first + suc place = omega arith in
    let rest : element_at (numbered (first + 1) classes lists) (first + suc place) ≡ Some e = subst (λ tag. element_at (numbered (first + 1) classes lists) tag ≡ Some e) next (element_at-numbered (first + 1) classes lists place e is) in
    rw differs rest

-- and none at a tag before the first or behind the last
pub element_at-before : (first : ℕ) (classes : List ℕ) (lists : List (List Value)) (tag : ℕ) → tag < first → element_at (numbered first classes lists) tag ≡ None
element_at-before first [] lists tag before = refl
element_at-before first (class ∷ classes) [] tag before = refl
element_at-before first (class ∷ classes) (values ∷ lists) tag before =
    let differs : eqb first tag ≡ false = search (rules, tests) in
    rw differs (element_at-before (first + 1) classes lists tag (omega (arith, before)))

pub element_at-behind : (first : ℕ) (classes : List ℕ) (lists : List (List Value)) (tag : ℕ) → first + length classes ≤ tag → element_at (numbered first classes lists) tag ≡ None
element_at-behind first [] lists tag behind = refl
element_at-behind first (class ∷ classes) [] tag behind = refl
element_at-behind first (class ∷ classes) (values ∷ lists) tag behind =
    let differs : eqb first tag ≡ false = search (rules, tests) in
    rw differs (element_at-behind (first + 1) classes lists tag (omega (arith, behind)))

-- so many elements from a place on
numbered-take : (first : ℕ) (classes : List ℕ) (lists : List (List Value)) (n : ℕ) → numbered first (take n classes) (take n lists) ≡ take n (numbered first classes lists)
numbered-take first classes lists zero = refl
numbered-take first [] lists (suc n) = refl
numbered-take first (class ∷ classes) [] (suc n) = refl
numbered-take first (class ∷ classes) (values ∷ lists) (suc n) = ap (λ rest. element first class values ∷ rest) (numbered-take (first + 1) classes lists n)

numbered-none : (first : ℕ) (classes : List ℕ) → numbered first classes [] ≡ []
numbered-none first [] = refl
numbered-none first (class ∷ classes) = refl

numbered-drop : (first : ℕ) (classes : List ℕ) (lists : List (List Value)) (n : ℕ) → numbered (first + n) (drop n classes) (drop n lists) ≡ drop n (numbered first classes lists)
numbered-drop first classes lists zero = let same : first + 0 ≡ first = omega arith in ap (λ tag. numbered tag classes lists) same
numbered-drop first [] lists (suc n) = refl
numbered-drop first (class ∷ classes) [] (suc n) = numbered-none (first + suc n) (drop n classes)
numbered-drop first (class ∷ classes) (values ∷ lists) (suc n) =
    let same : first + suc n ≡ first + 1 + n = omega arith in
    ap (λ tag. numbered tag (drop n classes) (drop n lists)) same ∙ numbered-drop (first + 1) classes lists n

pub numbered-range : (first : ℕ) (classes : List ℕ) (lists : List (List Value)) (from count : ℕ) → numbered (first + from) (take count (drop from classes)) (take count (drop from lists)) ≡ take count (drop from (numbered first classes lists))
numbered-range first classes lists from count = numbered-take (first + from) (drop from classes) (drop from lists) count ∙ ap (take count) (numbered-drop first classes lists from)
