-- The elements of a memory before a tag, as tags go on.
use Rattle.std.proofs.Common.{◌≡◌, inl, inr, ℕ, ◌+◌, ◌<◌, ◌≤◌, ◌==◌, [], ◌∷◌, ◌++◌, Bool, true, false, cond, filter, nat_lt, None, Some, ap, arith, refl, rules, subst, sym, tests, ◌∙◌, ◌⊎◌}
use Rattle.std.specs.List.{AllByRecursion, cons_option}
use Rattle.std.proofs.lemmas.Bool.{cases_lt, eqb-true, le-ltb, lt-ltb}
use Rattle.rule_base.specs.declared.element.Element.{Element}
use Rattle.rule_base.specs.Memory.{Memory, Rises, RisesFrom, element_at, tags_of}
use Rattle.rule_base.proofs.EachLemmas.{Each-weaker}
use Rattle.rule_base.proofs.MemoryLemmas.{RisesFrom-lower, Rises-from_above}

-- those whose tags are lower
abbrev pub before : ℕ → Memory → Memory
before tag memory = filter (λ (e : Element). nat_lt e.tag tag) memory

abbrev pub AllBefore : ℕ → Memory → Type 0
AllBefore tag memory = AllByRecursion (λ (e : Element). e.tag < tag) memory

abbrev pub AllFrom : ℕ → Memory → Type 0
AllFrom tag memory = AllByRecursion (λ (e : Element). tag ≤ e.tag) memory

-- where all are lower, and where none is
pub before-all : (tag : ℕ) (memory : Memory) → AllBefore tag memory → before tag memory ≡ memory
before-all tag [] all = refl
before-all tag (e ∷ memory) all =
    ap (λ b. cond b (e ∷ before tag memory) (before tag memory)) (lt-ltb e.tag tag all.0) ∙ ap (λ es. e ∷ es) (before-all tag memory all.1)

pub before-none : (tag : ℕ) (memory : Memory) → AllFrom tag memory → before tag memory ≡ []
before-none tag [] all = refl
before-none tag (e ∷ memory) all =
    ap (λ b. cond b (e ∷ before tag memory) (before tag memory)) (le-ltb e.tag tag all.0) ∙ before-none tag memory all.1

-- tags that rise above a number are from the next one on
pub from_above : (tag : ℕ) (memory : Memory) → RisesFrom tag (tags_of memory) → AllFrom (tag + 1) memory
from_above tag [] rises = tt
from_above tag (e ∷ memory) rises = (omega (arith, rises.0), from_above tag memory (RisesFrom-lower tag e.tag (tags_of memory) (omega (arith, rises.0)) rises.1))

pub from_lower : (low high : ℕ) (memory : Memory) → low ≤ high → AllFrom high memory → AllFrom low memory
from_lower low high memory le all = Each-weaker (λ (e : Element). high ≤ e.tag) (λ (e : Element). low ≤ e.tag) (λ e h. omega (arith, h, le)) memory all

-- no element before a tag has it
pub none_before : (tag : ℕ) (memory more : Memory) → AllBefore tag memory → element_at (memory ++ more) tag ≡ element_at more tag
none_before tag [] more all = refl
none_before tag (e ∷ memory) more all =
    let differs : (e.tag == tag) ≡ false = search (rules, tests, all.0) in
    ap (λ b. cond b (Some e) (element_at (memory ++ more) tag)) differs ∙ none_before tag memory more all.1

none_behind : (tag : ℕ) (memory : Memory) → AllFrom (tag + 1) memory → element_at memory tag ≡ None
none_behind tag [] all = refl
none_behind tag (e ∷ memory) all =
    let lt : tag < e.tag = omega (arith, all.0) in
    let differs : (e.tag == tag) ≡ false = search (rules, tests, lt) in
    ap (λ b. cond b (Some e) (element_at memory tag)) differs ∙ none_behind tag memory all.1

-- one tag more
pub before-next : (tag : ℕ) (memory : Memory) → Rises (tags_of memory) → before (tag + 1) memory ≡ before tag memory ++ cons_option (element_at memory tag) []
before-next tag [] rises = refl
before-next tag (e ∷ memory) rises = step (before-next tag memory (Rises-from_above e.tag (tags_of memory) rises)) (cases_lt e.tag tag)
  where
    behind : AllFrom (e.tag + 1) memory
    behind = from_above e.tag memory rises

    here : e.tag ≡ tag → before (tag + 1) (e ∷ memory) ≡ before tag (e ∷ memory) ++ cons_option (element_at (e ∷ memory) tag) []
    here same =
        let all : AllFrom (tag + 1) memory = subst (λ t. AllFrom (t + 1) memory) same behind in
        let first = ap (λ b. cond b (e ∷ before (tag + 1) memory) (before (tag + 1) memory)) (lt-ltb e.tag (tag + 1) (omega (arith, same))) ∙ ap (λ es. e ∷ es) (before-none (tag + 1) memory all) in
        let none = ap (λ b. cond b (e ∷ before tag memory) (before tag memory)) (le-ltb e.tag tag (omega (arith, same))) ∙ before-none tag memory (from_lower tag (tag + 1) memory (omega arith) all) in
        let has : (e.tag == tag) ≡ true = search (rules, tests, same) in
        let found = ap (λ b. cond b (Some e) (element_at memory tag)) has in
        first ∙ sym (ap (λ es. es ++ cons_option (element_at (e ∷ memory) tag) []) none ∙ ap (λ o. cons_option o []) found)

    above : tag < e.tag → before (tag + 1) (e ∷ memory) ≡ before tag (e ∷ memory) ++ cons_option (element_at (e ∷ memory) tag) []
    above lt =
        let all : AllFrom (tag + 1) (e ∷ memory) = (omega (arith, lt), from_lower (tag + 1) (e.tag + 1) memory (omega (arith, lt)) behind) in
        before-none (tag + 1) (e ∷ memory) all
        ∙ sym (ap (λ es. es ++ cons_option (element_at (e ∷ memory) tag) []) (before-none tag (e ∷ memory) (from_lower tag (tag + 1) (e ∷ memory) (omega arith) all))
        ∙ ap (λ o. cons_option o []) (none_behind tag (e ∷ memory) all))

    later : tag ≤ e.tag → (tag < e.tag) ⊎ (e.tag ≤ tag) → before (tag + 1) (e ∷ memory) ≡ before tag (e ∷ memory) ++ cons_option (element_at (e ∷ memory) tag) []
    later le (inl lt) = above lt
    later le (inr ge) = here (omega (arith, le, ge))

    step : before (tag + 1) memory ≡ before tag memory ++ cons_option (element_at memory tag) [] → (e.tag < tag) ⊎ (tag ≤ e.tag) → before (tag + 1) (e ∷ memory) ≡ before tag (e ∷ memory) ++ cons_option (element_at (e ∷ memory) tag) []
    step rest (inl lt) =
        let differs : (e.tag == tag) ≡ false = search (rules, tests, lt) in
        let first = ap (λ b. cond b (e ∷ before (tag + 1) memory) (before (tag + 1) memory)) (lt-ltb e.tag (tag + 1) (omega (arith, lt))) in
        let kept = ap (λ b. cond b (e ∷ before tag memory) (before tag memory)) (lt-ltb e.tag tag lt) in
        let found = ap (λ b. cond b (Some e) (element_at memory tag)) differs in
        first ∙ ap (λ es. e ∷ es) rest
        ∙ sym (ap (λ es. es ++ cons_option (element_at (e ∷ memory) tag) []) kept ∙ ap (λ o. e ∷ (before tag memory ++ cons_option o [])) found)
    step rest (inr le) = later le (cases_lt tag e.tag)

-- what is found has the tag
pub found_has : (memory : Memory) (tag : ℕ) (e : Element) → element_at memory tag ≡ Some e → e.tag ≡ tag
found_has [] tag e is = absurd (let wrong : ⊥ = cc in wrong)
found_has (x ∷ memory) tag e is = at (x.tag == tag) refl is (found_has memory tag e)
  where
    at : (b : Bool) → (x.tag == tag) ≡ b → cond b (Some x) (element_at memory tag) ≡ Some e → (element_at memory tag ≡ Some e → e.tag ≡ tag) → e.tag ≡ tag
    at true has found later =
        let same : x ≡ e = cc in
        ap (λ (y : Element). y.tag) (sym same) ∙ eqb-true x.tag tag has
    at false has found later = later found
