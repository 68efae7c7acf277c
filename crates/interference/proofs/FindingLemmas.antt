-- What the first of a list says: of tests that bind a variable, and of condition elements.
use Rattle.std.proofs.Common.{◌≡◌, ℕ, ◌+◌, ◌<◌, List, [], ◌∷◌, ◌++◌, Bool, true, false, cond, not, ◌&&◌, ◌||◌, Option, Some, None, drop, find, get_or, is_some, length, option_and_then, slice_get, zero, suc, ◌==◌, refl, sym, ◌∙◌, ap, arith, drop-cons}
use Rattle.std.specs.List.{flat_map, list_any}
use Rattle.std.specs.Option.{option_or}
use Rattle.rule_base.specs.declared.value.Value.{Value}
use Rattle.rule_base.specs.declared.element.Element.{Element}
use Rattle.rule_base.specs.declared.condition.Test.{Test}
use Rattle.rule_base.specs.declared.condition.Test.TheVariants.{Bind, Cmp, OneOf}
use Rattle.rule_base.specs.declared.condition.Cond.{Cond}
use Rattle.rule_base.specs.Chains.{only_if}
use Rattle.rule_base.specs.Sound.{bound_by_test, bound_variables}
use Rattle.interference.specs.Given.{first_told, given, positive, taken, told_by, told_by_test, value_at}
use Rattle.interference.specs.Pins.{is_bound}
use Rattle.interference.specs.Finding.{binds, first_binding}
use Rattle.interference.proofs.GivenLemmas.{taken_by, vars_of}

-- the item of a loop begins what is left
pub drop_item : {X : Type 0} (xs : List X) (at : ℕ) (x : X) → at < length xs → x ≡ get_or xs at x → drop at xs ≡ x ∷ drop (at + 1) xs
drop_item xs at x within is =
    let next : suc at ≡ at + 1 = omega arith in
    drop-cons xs at x within ∙ ap (λ y. y ∷ drop (suc at) xs) (sym is) ∙ ap (λ n. x ∷ drop n xs) next

-- and is at its place
pub slice_get-item : {X : Type 0} (xs : List X) (at : ℕ) (x : X) → at < length xs → x ≡ get_or xs at x → slice_get xs at ≡ Some x
slice_get-item [] at x within is = absurd (omega (arith, within))
slice_get-item (y ∷ xs) zero x within is = ap (λ z. Some z) (sym is)
slice_get-item (y ∷ xs) (suc at) x within is = slice_get-item xs at x (omega (arith, within)) is

-- there is an element at each place within
pub present : {X : Type 0} (xs : List X) (at : ℕ) → at < length xs → (x : X) × (slice_get xs at ≡ Some x)
present [] at within = absurd (omega (arith, within))
present (x ∷ xs) zero within = (x, refl)
present (x ∷ xs) (suc at) within = present xs at (omega (arith, within))

-- a test of some element of two lists
pub list_any-append : {X : Type 0} (p : X → Bool) (xs ys : List X) → list_any p (xs ++ ys) ≡ (list_any p xs || list_any p ys)
list_any-append p [] ys = refl
list_any-append p (x ∷ xs) ys = or_first (p x) (list_any p xs) (list_any p ys) (list_any p (xs ++ ys)) (list_any-append p xs ys)
  where
    or_first : (b rest more both : Bool) → both ≡ (rest || more) → (b || both) ≡ ((b || rest) || more)
    or_first true rest more both is = refl
    or_first false rest more both is = is

-- the variable is among those that tests bind where some test binds it
binds_first : (b : Bool) (attr : ℕ) (rest : Option ℕ) (any : Bool) → is_some rest ≡ any → is_some (option_or (only_if b attr) rest) ≡ (b || any)
binds_first true attr rest any is = refl
binds_first false attr rest any is = is

is_some-first_binding : (var : ℕ) (tests : List Test) → is_some (first_binding var tests) ≡ list_any (λ n. n == var) (flat_map bound_by_test tests)
is_some-first_binding var [] = refl
is_some-first_binding var (Bind attr other ∷ tests) = binds_first (other == var) attr (first_binding var tests) (list_any (λ n. n == var) (flat_map bound_by_test tests)) (is_some-first_binding var tests)
is_some-first_binding var (Cmp attr pred arg ∷ tests) = is_some-first_binding var tests
is_some-first_binding var (OneOf attr among ∷ tests) = is_some-first_binding var tests

-- a negated condition element binds nothing for others
is_bound-negated : (c : Cond) (conds : List Cond) (var : ℕ) → c.negated ≡ true → is_bound (c ∷ conds) var ≡ is_bound conds var
is_bound-negated c conds var is = ap (λ b. list_any (λ n. n == var) (bound_variables (cond (not b) (c ∷ positive conds) (positive conds)))) is

is_bound-positive : (c : Cond) (conds : List Cond) (var : ℕ) → c.negated ≡ false → is_bound (c ∷ conds) var ≡ (is_some (first_binding var c.tests) || is_bound conds var)
is_bound-positive c conds var is =
    ap (λ b. list_any (λ n. n == var) (bound_variables (cond (not b) (c ∷ positive conds) (positive conds)))) is
    ∙ list_any-append (λ n. n == var) (vars_of c) (bound_variables (positive conds))
    ∙ ap (λ b. b || is_bound conds var) (sym (is_some-first_binding var c.tests))

by_sign : (sign : Bool) (c : Cond) (conds : List Cond) (var : ℕ) → c.negated ≡ sign → is_bound (c ∷ conds) var ≡ ((not sign && is_some (first_binding var c.tests)) || is_bound conds var)
by_sign true c conds var is = is_bound-negated c conds var is
by_sign false c conds var is = is_bound-positive c conds var is

-- the first condition element binds it, or the rest does
is_bound-first : (c : Cond) (conds : List Cond) (var : ℕ) → is_bound (c ∷ conds) var ≡ (binds c var || is_bound conds var)
is_bound-first c conds var = by_sign c.negated c conds var refl

pub is_bound-here : (c : Cond) (conds : List Cond) (var : ℕ) → true ≡ binds c var → is_bound (c ∷ conds) var ≡ true
is_bound-here c conds var here = is_bound-first c conds var ∙ ap (λ b. b || is_bound conds var) (sym here)

pub is_bound-later : (c : Cond) (conds : List Cond) (var : ℕ) → false ≡ binds c var → is_bound (c ∷ conds) var ≡ is_bound conds var
is_bound-later c conds var none = is_bound-first c conds var ∙ ap (λ b. b || is_bound conds var) (sym none)

-- what tests tell first
told_here : (pair : Cond × Element) (var found : ℕ) (tests : List Test) (more : List (ℕ × Option Value)) → first_binding var tests ≡ Some found → first_told (flat_map (told_by_test pair) tests ++ more) var ≡ value_at pair found
told_here pair var found [] more is = absurd (let wrong : ⊥ = cc in wrong)
told_here pair var found (Bind attr other ∷ tests) more is = by_test (other == var) is (told_here pair var found tests more)
  where
    by_test : (b : Bool) → option_or (only_if b attr) (first_binding var tests) ≡ Some found → (first_binding var tests ≡ Some found → first_told (flat_map (told_by_test pair) tests ++ more) var ≡ value_at pair found) → option_and_then (λ (t : ℕ × Option Value). t.1) (cond b (Some (other, value_at pair attr)) (find (λ (t : ℕ × Option Value). t.0 == var) (flat_map (told_by_test pair) tests ++ more))) ≡ value_at pair found
    by_test true is' later = let same : attr ≡ found = cc in ap (value_at pair) same
    by_test false is' later = later is'
told_here pair var found (Cmp attr pred arg ∷ tests) more is = told_here pair var found tests more is
told_here pair var found (OneOf attr among ∷ tests) more is = told_here pair var found tests more is

told_later : (pair : Cond × Element) (var : ℕ) (tests : List Test) (more : List (ℕ × Option Value)) → first_binding var tests ≡ None → first_told (flat_map (told_by_test pair) tests ++ more) var ≡ first_told more var
told_later pair var [] more is = refl
told_later pair var (Bind attr other ∷ tests) more is = by_test (other == var) is (told_later pair var tests more)
  where
    by_test : (b : Bool) → option_or (only_if b attr) (first_binding var tests) ≡ None → (first_binding var tests ≡ None → first_told (flat_map (told_by_test pair) tests ++ more) var ≡ first_told more var) → option_and_then (λ (t : ℕ × Option Value). t.1) (cond b (Some (other, value_at pair attr)) (find (λ (t : ℕ × Option Value). t.0 == var) (flat_map (told_by_test pair) tests ++ more))) ≡ first_told more var
    by_test true is' later = absurd (let wrong : ⊥ = cc in wrong)
    by_test false is' later = later is'
told_later pair var (Cmp attr pred arg ∷ tests) more is = told_later pair var tests more is
told_later pair var (OneOf attr among ∷ tests) more is = told_later pair var tests more is

-- what condition elements and elements give, by the first of each
taken-sign : (c : Cond) (conds : List Cond) (elements : List Element) (b : Bool) → c.negated ≡ b → taken (c ∷ conds) elements ≡ taken_by b c conds elements
taken-sign c conds elements b is = ap (λ s. taken_by s c conds elements) is

pub given-negated : (c : Cond) (conds : List Cond) (elements : List Element) (var : ℕ) → c.negated ≡ true → given (c ∷ conds) elements var ≡ given conds elements var
given-negated c conds elements var is = ap (λ pairs. first_told (told_by pairs) var) (taken-sign c conds elements true is)

pub given-nothing : (c : Cond) (conds : List Cond) (var : ℕ) → c.negated ≡ false → given (c ∷ conds) [] var ≡ None
given-nothing c conds var is = ap (λ pairs. first_told (told_by pairs) var) (taken-sign c conds [] false is)

pub given-here : (c : Cond) (conds : List Cond) (e : Element) (elements : List Element) (var attr : ℕ) → c.negated ≡ false → first_binding var c.tests ≡ Some attr → given (c ∷ conds) (e ∷ elements) var ≡ value_at (c, e) attr
given-here c conds e elements var attr is binds = ap (λ pairs. first_told (told_by pairs) var) (taken-sign c conds (e ∷ elements) false is) ∙ told_here (c, e) var attr c.tests (told_by (taken conds elements)) binds

pub given-later : (c : Cond) (conds : List Cond) (e : Element) (elements : List Element) (var : ℕ) → c.negated ≡ false → first_binding var c.tests ≡ None → given (c ∷ conds) (e ∷ elements) var ≡ given conds elements var
given-later c conds e elements var is none = ap (λ pairs. first_told (told_by pairs) var) (taken-sign c conds (e ∷ elements) false is) ∙ told_later (c, e) var c.tests (told_by (taken conds elements)) none
