-- Working memories: what their tags say, and what removing and adding elements keeps.
use Rattle.std.proofs.Common.{◌≡◌, ℕ, ◌+◌, ◌<◌, ◌≤◌, List, [], ◌∷◌, ◌++◌, length, Bool, true, false, not, cond, drop, slice_get, ◌==◌, Some, eqb, refl, ap, ◌∙◌, subst, arith, rules, tests}
use Rattle.std.specs.List.{AllByRecursion, filter, list_any}
use Rattle.rule_base.specs.declared.element.Element.{Element}
use Rattle.rule_base.specs.declared.change.Change.{Change}
use Rattle.rule_base.specs.declared.change.Change.TheVariants.{Remove, Make}
use Rattle.rule_base.specs.Memory.{HasSize, IsMemory, Memory, element_at, Rises, RisesFrom, tags_of}
use Rattle.rule_base.specs.Opening.{AreConsecutive}
use Rattle.rule_base.specs.Step.{born, without}
use Rattle.rule_base.proofs.StepByStepLemmas.{drop_next}
use Rattle.rule_base.proofs.EachLemmas.{Each-append, Each-filter, Each-weaker}
use Rattle.rule_base.proofs.EffectLemmas.{MakesSized}

-- each element's tag is below this one
abbrev pub AllBelow : ℕ → Memory → Type 0
AllBelow next memory = AllByRecursion (λ (e : Element). e.tag < next) memory

-- consecutive tags are below what comes after them
pub AllBelow-consecutive : (first : ℕ) (memory : Memory) → AreConsecutive first (tags_of memory) → AllBelow (first + length memory) memory
AllBelow-consecutive first [] consecutive = tt
AllBelow-consecutive first (e ∷ memory) consecutive =
    let rest : AllBelow (first + 1 + length memory) memory = AllBelow-consecutive (first + 1) memory consecutive.1 in
    let same : first + 1 + length memory ≡ first + length (e ∷ memory) = omega arith in
    (omega (arith, consecutive.0), subst (λ n. AllBelow n memory) same rest)

-- each element of a memory is found at its tag
abbrev pub AllFound : Memory → Memory → Type 0
AllFound memory elements = AllByRecursion (λ (e : Element). element_at memory e.tag ≡ Some e) elements

-- tags above a number are above each smaller one
pub RisesFrom-lower : (low high : ℕ) (tags : List ℕ) → low ≤ high → RisesFrom high tags → RisesFrom low tags
RisesFrom-lower low high [] below rises = tt
RisesFrom-lower low high (tag ∷ tags) below rises = (omega (arith, rises.0), rises.1)

-- tags that rise above a number rise
pub Rises-from_above : (low : ℕ) (tags : List ℕ) → RisesFrom low tags → Rises tags
Rises-from_above low [] rises = tt
Rises-from_above low (tag ∷ tags) rises = rises.1

-- an element with another tag before a memory hides none of its elements
found_behind : (first : Element) (memory elements : Memory) → RisesFrom first.tag (tags_of elements) → AllFound memory elements → AllFound (first ∷ memory) elements
found_behind first memory [] rises found = tt
found_behind first memory (e ∷ elements) rises found =
    let differs : eqb first.tag e.tag ≡ false = search (rules, tests, rises.0) in
    let here : element_at (first ∷ memory) e.tag ≡ Some e = rw differs found.0 in
    (here, found_behind first memory elements (RisesFrom-lower first.tag e.tag (tags_of elements) (omega (arith, rises.0)) rises.1) found.1)

-- in a memory whose tags rise
pub AllFound-rising : (memory : Memory) → Rises (tags_of memory) → AllFound memory memory
AllFound-rising [] rises = tt
AllFound-rising (e ∷ memory) rises =
    let same : eqb e.tag e.tag ≡ true = search (rules, tests) in
    let here : element_at (e ∷ memory) e.tag ≡ Some e = rw same refl in
    (here, found_behind e memory memory rises (AllFound-rising memory (Rises-from_above e.tag (tags_of memory) rises)))

-- the search for a tag, at an element that has it and at one that has not
pub element_at-here : (memory : Memory) (at tag : ℕ) (e : Element) → slice_get memory at ≡ Some e → (e.tag == tag) ≡ true → element_at (drop at memory) tag ≡ Some e
element_at-here memory at tag e is same = ap (λ es. element_at es tag) (drop_next memory at e is) ∙ found_first (e.tag == tag) same
  where
    found_first : (b : Bool) → b ≡ true → cond b (Some e) (element_at (drop (at + 1) memory) tag) ≡ Some e
    found_first true is' = refl
    found_first false is' = absurd (let wrong : ⊥ = cc in wrong)

pub element_at-passed : (memory : Memory) (at tag : ℕ) (e : Element) → slice_get memory at ≡ Some e → (e.tag == tag) ≡ false → element_at (drop at memory) tag ≡ element_at (drop (at + 1) memory) tag
element_at-passed memory at tag e is differs = ap (λ es. element_at es tag) (drop_next memory at e is) ∙ passed_first (e.tag == tag) differs
  where
    passed_first : (b : Bool) → b ≡ false → cond b (Some e) (element_at (drop (at + 1) memory) tag) ≡ element_at (drop (at + 1) memory) tag
    passed_first false is' = refl
    passed_first true is' = absurd (let wrong : ⊥ = cc in wrong)

AllBelow-higher : (low high : ℕ) (memory : Memory) → low ≤ high → AllBelow low memory → AllBelow high memory
AllBelow-higher low high memory le below = Each-weaker (λ (e : Element). e.tag < low) (λ (e : Element). e.tag < high) (λ e lt. omega (arith, lt, le)) memory below

-- a filter leaves tags that rise
skips : (low : ℕ) (b : Bool) (e : Element) (rest : Memory) → low < e.tag → RisesFrom e.tag (tags_of rest) → RisesFrom low (tags_of (cond b (e ∷ rest) rest))
skips low true e rest lt rises = (lt, rises)
skips low false e rest lt rises = RisesFrom-lower low e.tag (tags_of rest) (omega (arith, lt)) rises

RisesFrom-filter : (low : ℕ) (p : Element → Bool) (memory : Memory) → RisesFrom low (tags_of memory) → RisesFrom low (tags_of (filter p memory))
RisesFrom-filter low p [] rises = tt
RisesFrom-filter low p (e ∷ memory) rises = skips low (p e) e (filter p memory) rises.0 (RisesFrom-filter e.tag p memory rises.1)

skips_first : (b : Bool) (e : Element) (rest : Memory) → RisesFrom e.tag (tags_of rest) → Rises (tags_of (cond b (e ∷ rest) rest))
skips_first true e rest rises = rises
skips_first false e rest rises = Rises-from_above e.tag (tags_of rest) rises

pub Rises-filter : (p : Element → Bool) (memory : Memory) → Rises (tags_of memory) → Rises (tags_of (filter p memory))
Rises-filter p [] rises = tt
Rises-filter p (e ∷ memory) rises = skips_first (p e) e (filter p memory) (RisesFrom-filter e.tag p memory rises)

-- tags from a number on, all rising
abbrev StartsAt : ℕ → Memory → Type 0
StartsAt next memory = (low : ℕ) → low < next → RisesFrom low (tags_of memory)

RisesFrom-append : (low next : ℕ) (memory more : Memory) → low < next → RisesFrom low (tags_of memory) → AllBelow next memory → StartsAt next more → RisesFrom low (tags_of (memory ++ more))
RisesFrom-append low next [] more lt rises below starts = starts low lt
RisesFrom-append low next (e ∷ memory) more lt rises below starts = (rises.0, RisesFrom-append e.tag next memory more below.0 rises.1 below.1 starts)

pub Rises-append : (next : ℕ) (memory more : Memory) → Rises (tags_of memory) → AllBelow next memory → StartsAt next more → Rises (tags_of more) → Rises (tags_of (memory ++ more))
Rises-append next [] more rises below starts more_rises = more_rises
Rises-append next (e ∷ memory) more rises below starts more_rises = RisesFrom-append e.tag next memory more below.0 rises below.1 starts

-- the elements that changes make have the next tags
born_starts : (next : ℕ) (changes : List Change) → StartsAt next (born next changes)
born_starts next [] low lt = tt
born_starts next (Remove tag ∷ changes) low lt = born_starts next changes low lt
born_starts next (Make class values ∷ changes) low lt = (lt, born_starts (next + 1) changes next (omega arith))

born_rises : (next : ℕ) (changes : List Change) → Rises (tags_of (born next changes))
born_rises next [] = tt
born_rises next (Remove tag ∷ changes) = born_rises next changes
born_rises next (Make class values ∷ changes) = born_starts (next + 1) changes next (omega arith)

AllBelow-born : (next : ℕ) (changes : List Change) → AllBelow (next + length (born next changes)) (born next changes)
AllBelow-born next [] = tt
AllBelow-born next (Remove tag ∷ changes) = AllBelow-born next changes
AllBelow-born next (Make class values ∷ changes) =
    let same : next + 1 + length (born (next + 1) changes) ≡ next + length (born next (Make class values ∷ changes)) = omega arith in
    (omega arith, subst (λ n. AllBelow n (born (next + 1) changes)) same (AllBelow-born (next + 1) changes))

sized_born : (sizes : List ℕ) (next : ℕ) (changes : List Change) → AllByRecursion (MakesSized sizes) changes → AllByRecursion (HasSize sizes) (born next changes)
sized_born sizes next [] sized = tt
sized_born sizes next (Remove tag ∷ changes) sized = sized_born sizes next changes sized.1
sized_born sizes next (Make class values ∷ changes) sized = (sized.0, sized_born sizes (next + 1) changes sized.1)

-- a memory whose tags were all given before the next one
pub record IsMemoryBelow (sizes : List ℕ) (next : ℕ) (memory : Memory) : Type 0 where
  pub memory' : IsMemory sizes memory
  pub below : AllBelow next memory

-- stays one when elements go and elements with the next tags come
pub IsMemoryBelow-commit : (sizes : List ℕ) (next : ℕ) (memory : Memory) (tags : List ℕ) (changes : List Change) → IsMemory sizes memory → AllBelow next memory → AllByRecursion (MakesSized sizes) changes → IsMemoryBelow sizes (next + length (born next changes)) (without memory tags ++ born next changes)
IsMemoryBelow-commit sizes next memory tags changes is below sized =
    let stays : Element → Bool = λ (e : Element). not (list_any (λ tag. tag == e.tag) tags) in
    let left_below : AllBelow next (without memory tags) = Each-filter (λ (e : Element). e.tag < next) stays memory below in
    let new = born next changes in
    record {
      memory' = record {
        rising = Rises-append next (without memory tags) new (Rises-filter stays memory is.rising) left_below (born_starts next changes) (born_rises next changes);
        sized = Each-append (HasSize sizes) (without memory tags) new (Each-filter (HasSize sizes) stays memory is.sized) (sized_born sizes next changes sized);
      };
      below = Each-append (λ (e : Element). e.tag < next + length new) (without memory tags) new (AllBelow-higher next (next + length new) (without memory tags) (omega arith) left_below) (AllBelow-born next changes);
    }
