-- What footprints add to the words of their locks, and what they take away from them.
use Rattle.std.proofs.Common.{◌≡◌, ◌≢◌, ℕ, ◌+◌, ◌-◌, ◌*◌, ◌<◌, ◌≤◌, List, [], ◌∷◌, ◌++◌, Bool, true, false, if◌then◌else◌, not, Option, Some, None, inl, inr, drop, find, get_or, length, map, option_map, replicate, set, ◌==◌, refl, sym, ◌∙◌, ap, arith}
use Rattle.std.specs.List.{AllByRecursion, remove}
use Rattle.std.specs.Option.{option_map_or}
use Rattle.std.proofs.lemmas.Bool.{cases_lt, eqb-true}
use Rattle.std.proofs.lemmas.Bool.Decides.{nat_tests}
use Rattle.std.proofs.lemmas.List.{at_drop_more, get_or_past, get_or-replicate, get_or-set_other, get_or-set_same, length-replicate}
use Rattle.std.proofs.lemmas.List.Sums.{sum_by-cons, sum_by-remove, sum_by_push}
use Rattle.std.proofs.lemmas.Option.{slice_get-get_or}
use Rattle.rule_base.specs.declared.lock.Mode.{Mode}
use Rattle.rule_base.specs.declared.lock.Mode.TheVariants.{Watch, Grow, Own}
use Rattle.rule_base.specs.Chains.{only_if}
use Rattle.rule_base.specs.Memory.{Rises, RisesFrom}
use Rattle.rule_base.proofs.EachLemmas.{Each-slice_get}
use Rattle.interference.specs.Modes.{asks, joined}
use Rattle.interference.specs.Words.{admits, amount, first_busy, word_of}
use Rattle.standing_claims.specs.Amounts.{AreWordsOf, amounts}

abbrev Demands : Type 0
Demands = List (ℕ × Mode)

abbrev locks_of : Demands → List ℕ
locks_of demands = map (λ (d : ℕ × Mode). d.0) demands

-- what one footprint adds to a lock
abbrev asked_amount : Demands → ℕ → ℕ
asked_amount footprint lock = option_map_or amount (asks footprint lock) 0

-- the word of one lock grows
word_more : (words : List ℕ) (at more lock : ℕ) (b : Bool) → (at == lock) ≡ b → at < length words → get_or (set words at (get_or words at 0 + more)) lock 0 ≡ get_or words lock 0 + (if b then more else 0)
word_more words at more lock true is within =
    let same : at ≡ lock = eqb-true at lock is in
    let word = get_or words at 0 + more in
    ap (λ n. get_or (set words at word) n 0) (sym same) ∙ get_or-set_same words at word 0 within ∙ ap (λ n. get_or words n 0 + more) same
word_more words at more lock false is within =
    let other : lock ≢ at = grind (arith, nat_tests) in
    let stays : get_or (set words at (get_or words at 0 + more)) lock 0 ≡ get_or words lock 0 = get_or-set_other words at lock (get_or words at 0 + more) 0 other in
    omega (arith, stays)

-- or falls
word_less : (words : List ℕ) (at less lock : ℕ) (b : Bool) → (at == lock) ≡ b → at < length words → less ≤ get_or words at 0 → get_or (set words at (get_or words at 0 - less)) lock 0 + (if b then less else 0) ≡ get_or words lock 0
word_less words at less lock true is within enough =
    let same : at ≡ lock = eqb-true at lock is in
    let word = get_or words at 0 - less in
    let here : get_or (set words at word) lock 0 ≡ word = ap (λ n. get_or (set words at word) n 0) (sym same) ∙ get_or-set_same words at word 0 within in
    let old : get_or words at 0 ≡ get_or words lock 0 = ap (λ n. get_or words n 0) same in
    omega (arith, here, old, enough)
word_less words at less lock false is within enough =
    let other : lock ≢ at = grind (arith, nat_tests) in
    let stays : get_or (set words at (get_or words at 0 - less)) lock 0 ≡ get_or words lock 0 = get_or-set_other words at lock (get_or words at 0 - less) 0 other in
    omega (arith, stays)

-- a demand of a list is of a lock that has a word
pub lock_within : (count i : ℕ) (demands : Demands) (d : ℕ × Mode) → AllByRecursion (λ (d : ℕ × Mode). d.0 < count) demands → i < length demands → (get_or demands i d).0 < count
lock_within count i demands d within lt = Each-slice_get (λ (d : ℕ × Mode). d.0 < count) demands i (get_or demands i d) within (slice_get-get_or demands i d lt)

-- what is left, by its first demand
amounts-left : (demands : Demands) (i lock : ℕ) (d : ℕ × Mode) → i < length demands → amounts (drop i demands) lock ≡ (if (get_or demands i d).0 == lock then amount (get_or demands i d).1 else 0) + amounts (drop (i + 1) demands) lock
amounts-left demands i lock d lt = at_drop_more (λ ds. amounts ds lock) demands i d lt

-- a demand is added
pub words-added : (words : List ℕ) (demands : Demands) (i more : ℕ) (d : ℕ × Mode) (total : ℕ → ℕ) → i < length demands → (get_or demands i d).0 < length words → more ≡ amount (get_or demands i d).1 → ((lock : ℕ) → get_or words lock 0 + amounts (drop i demands) lock ≡ total lock) → (lock : ℕ) → get_or (set words (get_or demands i d).0 (get_or words (get_or demands i d).0 0 + more)) lock 0 + amounts (drop (i + 1) demands) lock ≡ total lock
words-added words demands i more d total lt within is before lock =
    let demand = get_or demands i d in
    let grown = word_more words demand.0 more lock (demand.0 == lock) refl within in
    let same : (if demand.0 == lock then more else 0) ≡ (if demand.0 == lock then amount demand.1 else 0) = ap (λ n. if demand.0 == lock then n else 0) is in
    omega (arith, grown, same, amounts-left demands i lock d lt, before lock)

-- there is enough to take a demand away
equal_to_itself : (n more : ℕ) (b : Bool) → (n == n) ≡ b → (if b then more else 0) ≡ more
equal_to_itself n more true is = refl
equal_to_itself n more false is = absurd (let other : n ≢ n = grind (arith, nat_tests) in other refl)

pub enough_left : (words : List ℕ) (demands : Demands) (i less : ℕ) (d : ℕ × Mode) (old : ℕ → ℕ) → i < length demands → less ≡ amount (get_or demands i d).1 → ((lock : ℕ) → amounts demands lock ≤ old lock) → ((lock : ℕ) → get_or words lock 0 + amounts demands lock ≡ old lock + amounts (drop i demands) lock) → less ≤ get_or words (get_or demands i d).0 0
enough_left words demands i less d old lt is taken before =
    let demand = get_or demands i d in
    let lock = demand.0 in
    let this = equal_to_itself lock (amount demand.1) (lock == lock) refl in
    omega (arith, taken lock, before lock, amounts-left demands i lock d lt, this, is)

-- a demand is taken away
pub words-taken : (words : List ℕ) (demands : Demands) (i less : ℕ) (d : ℕ × Mode) (old total : ℕ → ℕ) → i < length demands → (get_or demands i d).0 < length words → less ≡ amount (get_or demands i d).1 → less ≤ get_or words (get_or demands i d).0 0 → ((lock : ℕ) → get_or words lock 0 + total lock ≡ old lock + amounts (drop i demands) lock) → (lock : ℕ) → get_or (set words (get_or demands i d).0 (get_or words (get_or demands i d).0 0 - less)) lock 0 + total lock ≡ old lock + amounts (drop (i + 1) demands) lock
words-taken words demands i less d old total lt within is enough before lock =
    let demand = get_or demands i d in
    let fallen = word_less words demand.0 less lock (demand.0 == lock) refl within enough in
    let same : (if demand.0 == lock then less else 0) ≡ (if demand.0 == lock then amount demand.1 else 0) = ap (λ n. if demand.0 == lock then n else 0) is in
    omega (arith, fallen, same, amounts-left demands i lock d lt, before lock)

-- where locks rise, none is asked for twice, so that demands add what they ask for
above_step : (low lock : ℕ) (d : ℕ × Mode) (demands : Demands) (b : Bool) → (d.0 == lock) ≡ b → lock ≤ low → low < d.0 → (amounts demands lock ≡ 0) × (asks demands lock ≡ None) → ((if b then amount d.1 else 0) + amounts demands lock ≡ 0) × (joined (only_if b d.1) (asks demands lock) ≡ None)
above_step low lock d demands true is below above rest = absurd (omega (arith, eqb-true d.0 lock is, below, above))
above_step low lock d demands false is below above rest = (omega (arith, rest.0), rest.1)

amounts-above : (low lock : ℕ) (demands : Demands) → RisesFrom low (locks_of demands) → lock ≤ low → (amounts demands lock ≡ 0) × (asks demands lock ≡ None)
amounts-above low lock [] rises below = (refl, refl)
amounts-above low lock (d ∷ demands) rises below =
    above_step low lock d demands (d.0 == lock) refl below rises.0 (amounts-above d.0 lock demands rises.1 (omega (arith, below, rises.0)))

rest_rises : (first : ℕ) (rest : List ℕ) → RisesFrom first rest → Rises rest
rest_rises first [] rises = tt
rest_rises first (n ∷ rest) rises = rises.1

asks_step : (lock : ℕ) (d : ℕ × Mode) (demands : Demands) (b : Bool) → (d.0 == lock) ≡ b → RisesFrom d.0 (locks_of demands) → amounts demands lock ≡ asked_amount demands lock → (if b then amount d.1 else 0) + amounts demands lock ≡ option_map_or amount (joined (only_if b d.1) (asks demands lock)) 0
asks_step lock d demands true is rises rest =
    let none = amounts-above d.0 lock demands rises (omega (arith, eqb-true d.0 lock is)) in
    let asked : option_map_or amount (joined (Some d.1) (asks demands lock)) 0 ≡ amount d.1 = ap (λ (o : Option Mode). option_map_or amount (joined (Some d.1) o) 0) none.1 in
    omega (arith, none.0, asked)
asks_step lock d demands false is rises rest = omega (arith, rest)

pub amounts-asks : (demands : Demands) (lock : ℕ) → Rises (locks_of demands) → amounts demands lock ≡ asked_amount demands lock
amounts-asks [] lock rises = refl
amounts-asks (d ∷ demands) lock rises = asks_step lock d demands (d.0 == lock) refl rises (amounts-asks demands lock (rest_rises d.0 (locks_of demands) rises))

-- no amount is above that of one who owns
amount-le : (o : Option Mode) → option_map_or amount o 0 ≤ 1099511627776
amount-le None = omega arith
amount-le (Some Watch) = omega arith
amount-le (Some Grow) = omega arith
amount-le (Some Own) = omega arith

pub amounts-le : (demands : Demands) (lock : ℕ) → Rises (locks_of demands) → amounts demands lock ≤ 1099511627776
amounts-le demands lock rises = omega (arith, amounts-asks demands lock rises, amount-le (asks demands lock))

pub word_of-le : (footprints : List Demands) (lock : ℕ) → word_of footprints lock ≤ length footprints * 1099511627776
word_of-le [] lock = omega arith
word_of-le (footprint ∷ footprints) lock =
    omega (arith, sum_by-cons (λ (f : Demands). asked_amount f lock) footprint footprints, amount-le (asks footprint lock), word_of-le footprints lock)

-- the words of one footprint more
pub words-push : (footprints : List Demands) (footprint : Demands) (words words' : List ℕ) → Rises (locks_of footprint) → AreWordsOf footprints words → ((lock : ℕ) → get_or words' lock 0 ≡ get_or words lock 0 + amounts footprint lock) → AreWordsOf (footprints ++ footprint ∷ []) words'
words-push footprints footprint words words' rises before more lock =
    omega (arith, sum_by_push (λ (f : Demands). asked_amount f lock) footprints footprint, amounts-asks footprint lock rises, before lock, more lock)

-- and of one less
pub words-remove : (footprints : List Demands) (i : ℕ) (footprint : Demands) (words words' : List ℕ) → i < length footprints → footprint ≡ get_or footprints i [] → Rises (locks_of footprint) → AreWordsOf footprints words → ((lock : ℕ) → get_or words' lock 0 + amounts footprint lock ≡ get_or words lock 0) → AreWordsOf (remove footprints i) words'
words-remove footprints i footprint words words' lt is rises before less lock =
    let this : asked_amount footprint lock ≡ asked_amount (get_or footprints i []) lock = ap (λ (f : Demands). asked_amount f lock) is in
    omega (arith, sum_by-remove (λ (f : Demands). asked_amount f lock) footprints i [] lt, this, amounts-asks footprint lock rises, before lock, less lock)

-- a footprint that stands is part of the words
pub words-enough : (footprints : List Demands) (i : ℕ) (footprint : Demands) (words : List ℕ) → i < length footprints → footprint ≡ get_or footprints i [] → Rises (locks_of footprint) → AreWordsOf footprints words → (lock : ℕ) → amounts footprint lock ≤ get_or words lock 0
words-enough footprints i footprint words lt is rises before lock =
    let this : asked_amount footprint lock ≡ asked_amount (get_or footprints i []) lock = ap (λ (f : Demands). asked_amount f lock) is in
    omega (arith, sum_by-remove (λ (f : Demands). asked_amount f lock) footprints i [] lt, this, amounts-asks footprint lock rises, before lock)

-- words that nobody has taken
pub words-none : (count : ℕ) → AreWordsOf [] (replicate count 0)
words-none count lock = elim (cases_lt lock count) [
  | inl lt ↦ get_or-replicate count lock 0 0 lt
  | inr le ↦ get_or_past (replicate count 0) lock 0 (omega (arith, le, length-replicate {A = ℕ} count 0))
]

-- what is busy by words that are alike
pub first_busy-same : (one other : ℕ → ℕ) (footprint : Demands) → ((lock : ℕ) → one lock ≡ other lock) → first_busy one footprint ≡ first_busy other footprint
first_busy-same one other footprint same = ap (λ (words : ℕ → ℕ). first_busy words footprint) (λ i lock. same lock i)

-- nothing is busy where nobody has taken a lock
admitted : (mode : Mode) → admits 0 mode ≡ true
admitted Watch = refl
admitted Grow = refl
admitted Own = refl

none_step : (b : Bool) (d : ℕ × Mode) (rest : Option (ℕ × Mode)) → b ≡ true → rest ≡ None → (if not b then Some d else rest) ≡ None
none_step true d rest is none = none
none_step false d rest is none = absurd (let wrong : ⊥ = cc in wrong)

none_found : (footprint : Demands) → find (λ (d : ℕ × Mode). not (admits 0 d.1)) footprint ≡ None
none_found [] = refl
none_found (d ∷ footprint) = none_step (admits 0 d.1) d _ (admitted d.1) (none_found footprint)

pub first_busy-none : (words : ℕ → ℕ) (footprint : Demands) → ((lock : ℕ) → words lock ≡ 0) → first_busy words footprint ≡ None
first_busy-none words footprint none =
    first_busy-same words (λ lock. 0) footprint none ∙ ap (option_map (λ (d : ℕ × Mode). record { lock = d.0; word = 0 })) (none_found footprint)
