-- Lock words: marks are counted apart, and a word leaves room for a mode exactly where it goes with all that are there.
use Rattle.std.proofs.Common.{◌≡◌, ℕ, ◌+◌, ◌*◌, ◌^◌, ◌%◌, ◌<◌, ◌≤◌, ◌↔◌, List, [], ◌∷◌, Bool, true, false, if◌then◌else◌, ◌&&◌, not, Option, Some, None, inl, inr, find, length, nat_lt, option_map, ◌==◌, refl, sym, ◌∙◌, ap, subst, arith, rules, tests}
use Rattle.std.specs.List.{AllByRecursion}
use Rattle.std.specs.Option.{option_map_or}
use Rattle.std.proofs.lemmas.Bool.Decides.{Decides-eqb}
use Rattle.std.proofs.lemmas.List.Sums.{sum_by-cons}
use Rattle.std.proofs.lemmas.Nat.{mod-mul-add}
use Rattle.rule_base.specs.declared.lock.Mode.{Mode}
use Rattle.rule_base.specs.declared.lock.Mode.TheVariants.{Watch, Grow, Own}
use Rattle.rule_base.specs.Chains.{only_if}
use Rattle.rule_base.specs.Memory.{Rises, RisesFrom}
use Rattle.rule_base.proofs.AmongLemmas.{Among}
use Rattle.interference.specs.Modes.{asks, goes, joined}
use Rattle.interference.specs.Footprint.{Clash}
use Rattle.interference.specs.Words.{admits, amount, first_busy, word_of}
use Rattle.interference.specs.WordLaws.{IsClear}
use Rattle.interference.proofs.ListLemmas.{Each-among, Each-from_among}
use Rattle.interference.proofs.DemandCodeLemmas.{locks_of}

-- what footprints add up to on a lock, by what each mode counts
abbrev marks : (Mode → ℕ) → List (List (ℕ × Mode)) → ℕ → ℕ
marks counts [] lock = 0
marks counts (other ∷ others) lock = option_map_or counts (asks other lock) 0 + marks counts others lock

abbrev watching : Mode → ℕ
watching Watch = 1
watching Grow = 0
watching Own = 0

abbrev growing : Mode → ℕ
growing Watch = 0
growing Grow = 1
growing Own = 0

abbrev owning : Mode → ℕ
owning Watch = 0
owning Grow = 0
owning Own = 1

word-marks : (others : List (List (ℕ × Mode))) (lock : ℕ) → word_of others lock ≡ marks amount others lock
word-marks [] lock = refl
word-marks (other ∷ others) lock =
    sum_by-cons (λ (footprint : List (ℕ × Mode)). option_map_or amount (asks footprint lock) 0) other others
    ∙ ap (λ n. option_map_or amount (asks other lock) 0 + n) (word-marks others lock)

-- the three counts in one mark
of_mark : (o : Option Mode) → option_map_or amount o 0 ≡ option_map_or watching o 0 + 1048576 * option_map_or growing o 0 + 1099511627776 * option_map_or owning o 0
of_mark None = refl
of_mark (Some Watch) = refl
of_mark (Some Grow) = refl
of_mark (Some Own) = refl

at_most_one : (o : Option Mode) → option_map_or watching o 0 + option_map_or growing o 0 + option_map_or owning o 0 ≤ 1
at_most_one None = omega arith
at_most_one (Some Watch) = omega arith
at_most_one (Some Grow) = omega arith
at_most_one (Some Own) = omega arith

-- and in all
counted_apart : (others : List (List (ℕ × Mode))) (lock : ℕ) → marks amount others lock ≡ marks watching others lock + 1048576 * marks growing others lock + 1099511627776 * marks owning others lock
counted_apart [] lock = refl
counted_apart (other ∷ others) lock = omega (arith, of_mark (asks other lock), counted_apart others lock)

few_marks : (others : List (List (ℕ × Mode))) (lock : ℕ) → marks watching others lock + marks growing others lock + marks owning others lock ≤ length others
few_marks [] lock = omega arith
few_marks (other ∷ others) lock = omega (arith, at_most_one (asks other lock), few_marks others lock)

-- the marks that don't go with a mode
abbrev in_the_way : Mode → Mode → ℕ
in_the_way mode other = if goes other mode then 0 else 1

way_of_watch : (o : Option Mode) → option_map_or (in_the_way Watch) o 0 ≡ option_map_or growing o 0 + option_map_or owning o 0
way_of_watch None = refl
way_of_watch (Some Watch) = refl
way_of_watch (Some Grow) = refl
way_of_watch (Some Own) = refl

way_of_grow : (o : Option Mode) → option_map_or (in_the_way Grow) o 0 ≡ option_map_or watching o 0 + option_map_or owning o 0
way_of_grow None = refl
way_of_grow (Some Watch) = refl
way_of_grow (Some Grow) = refl
way_of_grow (Some Own) = refl

way_of_own : (o : Option Mode) → option_map_or (in_the_way Own) o 0 ≡ option_map_or watching o 0 + option_map_or growing o 0 + option_map_or owning o 0
way_of_own None = refl
way_of_own (Some Watch) = refl
way_of_own (Some Grow) = refl
way_of_own (Some Own) = refl

against_watch : (others : List (List (ℕ × Mode))) (lock : ℕ) → marks (in_the_way Watch) others lock ≡ marks growing others lock + marks owning others lock
against_watch [] lock = refl
against_watch (other ∷ others) lock = omega (arith, way_of_watch (asks other lock), against_watch others lock)

against_grow : (others : List (List (ℕ × Mode))) (lock : ℕ) → marks (in_the_way Grow) others lock ≡ marks watching others lock + marks owning others lock
against_grow [] lock = refl
against_grow (other ∷ others) lock = omega (arith, way_of_grow (asks other lock), against_grow others lock)

against_own : (others : List (List (ℕ × Mode))) (lock : ℕ) → marks (in_the_way Own) others lock ≡ marks watching others lock + marks growing others lock + marks owning others lock
against_own [] lock = refl
against_own (other ∷ others) lock = omega (arith, way_of_own (asks other lock), against_own others lock)

-- what three counts that don't touch say of their sum
by_watch : (w g o : ℕ) → w < 1048576 → admits (w + 1048576 * g + 1099511627776 * o) Watch ≡ true → g + o ≡ 0
by_watch w g o few admitted = let below : w + 1048576 * g + 1099511627776 * o < 1048576 = search (rules, tests, admitted) in omega (arith, below)

to_watch : (w g o : ℕ) → w < 1048576 → g + o ≡ 0 → admits (w + 1048576 * g + 1099511627776 * o) Watch ≡ true
to_watch w g o few none = let below : w + 1048576 * g + 1099511627776 * o < 1048576 = omega (arith, few, none) in search (rules, tests, below)

and_left : (a b : Bool) → (a && b) ≡ true → a ≡ true
and_left true b both = refl
and_left false b both = both

and_right : (a b : Bool) → (a && b) ≡ true → b ≡ true
and_right true b both = both
and_right false b both = absurd (let wrong : ⊥ = cc in wrong)

pub and_both : (a b : Bool) → a ≡ true → b ≡ true → (a && b) ≡ true
and_both true b first second = second
and_both false b first second = first

lowest : (w g o : ℕ) → w < 1048576 → (w + 1048576 * g + 1099511627776 * o) % 1048576 ≡ w
lowest w g o few =
    let same : w + 1048576 * g + 1099511627776 * o ≡ (g + 1048576 * o) * 1048576 + w = omega arith in
    ap (λ n. n % 1048576) same ∙ mod-mul-add (g + 1048576 * o) 1048576 w few

by_grow : (w g o : ℕ) → w < 1048576 → admits (w + 1048576 * g + 1099511627776 * o) Grow ≡ true → w + o ≡ 0
by_grow w g o few admitted =
    let word = w + 1048576 * g + 1099511627776 * o in
    let is_low : nat_lt word 1099511627776 ≡ true = and_left (nat_lt word 1099511627776) (word % 1048576 == 0) admitted in
    let below : word < 1099511627776 = search (rules, tests, is_low) in
    let rest : word % 1048576 ≡ 0 = (Decides-eqb (word % 1048576) 0).0 (and_right (nat_lt word 1099511627776) (word % 1048576 == 0) admitted) in
    omega (arith, below, rest, lowest w g o few)

to_grow : (w g o : ℕ) → w < 1048576 → g < 1048576 → w + o ≡ 0 → admits (w + 1048576 * g + 1099511627776 * o) Grow ≡ true
to_grow w g o few few_grow none =
    let word = w + 1048576 * g + 1099511627776 * o in
    let below : word < 1099511627776 = omega (arith, few_grow, none) in
    let rest : word % 1048576 ≡ 0 = lowest w g o few ∙ omega (arith, none) in
    and_both (nat_lt word 1099511627776) (word % 1048576 == 0) (search (rules, tests, below)) ((Decides-eqb (word % 1048576) 0).1 rest)

by_own : (w g o : ℕ) → admits (w + 1048576 * g + 1099511627776 * o) Own ≡ true → w + g + o ≡ 0
by_own w g o admitted =
    let none : w + 1048576 * g + 1099511627776 * o ≡ 0 = (Decides-eqb (w + 1048576 * g + 1099511627776 * o) 0).0 admitted in
    omega (arith, none)

to_own : (w g o : ℕ) → w + g + o ≡ 0 → admits (w + 1048576 * g + 1099511627776 * o) Own ≡ true
to_own w g o none = (Decides-eqb (w + 1048576 * g + 1099511627776 * o) 0).1 (omega (arith, none))

word_is : (others : List (List (ℕ × Mode))) (lock : ℕ) → word_of others lock ≡ marks watching others lock + 1048576 * marks growing others lock + 1099511627776 * marks owning others lock
word_is others lock = word-marks others lock ∙ counted_apart others lock

-- a word admits a mode exactly where nothing is in its way
by_admits : (mode : Mode) (others : List (List (ℕ × Mode))) (lock : ℕ) → length others < 1048576 → admits (word_of others lock) mode ≡ true → marks (in_the_way mode) others lock ≡ 0
by_admits Watch others lock few admitted =
    against_watch others lock ∙ by_watch (marks watching others lock) (marks growing others lock) (marks owning others lock) (omega (arith, few, few_marks others lock)) (ap (λ n. admits n Watch) (sym (word_is others lock)) ∙ admitted)
by_admits Grow others lock few admitted =
    against_grow others lock ∙ by_grow (marks watching others lock) (marks growing others lock) (marks owning others lock) (omega (arith, few, few_marks others lock)) (ap (λ n. admits n Grow) (sym (word_is others lock)) ∙ admitted)
by_admits Own others lock few admitted =
    against_own others lock ∙ by_own (marks watching others lock) (marks growing others lock) (marks owning others lock) (ap (λ n. admits n Own) (sym (word_is others lock)) ∙ admitted)

to_admits : (mode : Mode) (others : List (List (ℕ × Mode))) (lock : ℕ) → length others < 1048576 → marks (in_the_way mode) others lock ≡ 0 → admits (word_of others lock) mode ≡ true
to_admits Watch others lock few none =
    ap (λ n. admits n Watch) (word_is others lock) ∙ to_watch (marks watching others lock) (marks growing others lock) (marks owning others lock) (omega (arith, few, few_marks others lock)) (sym (against_watch others lock) ∙ none)
to_admits Grow others lock few none =
    ap (λ n. admits n Grow) (word_is others lock)
    ∙ to_grow (marks watching others lock) (marks growing others lock) (marks owning others lock) (omega (arith, few, few_marks others lock)) (omega (arith, few, few_marks others lock)) (sym (against_grow others lock) ∙ none)
to_admits Own others lock few none =
    ap (λ n. admits n Own) (word_is others lock) ∙ to_own (marks watching others lock) (marks growing others lock) (marks owning others lock) (sym (against_own others lock) ∙ none)

-- nothing is in the way of a mode exactly where each mode that is asked of the lock goes with it
abbrev AllGo : Mode → List (List (ℕ × Mode)) → ℕ → Type 0
AllGo mode others lock = AllByRecursion (λ other. (asked : Mode) → asks other lock ≡ Some asked → goes asked mode ≡ true) others

goes_by : (mode asked : Mode) (b : Bool) → goes asked mode ≡ b → in_the_way mode asked ≡ 0 → b ≡ true
goes_by mode asked true is none = refl
goes_by mode asked false is none = absurd (let one : (if false then 0 else 1) ≡ 0 = ap (λ b. if b then 0 else 1) (sym is) ∙ none in omega (arith, one))

one_goes : (mode : Mode) (o : Option Mode) (asked : Mode) → option_map_or (in_the_way mode) o 0 ≡ 0 → o ≡ Some asked → goes asked mode ≡ true
one_goes mode None asked none is = absurd (let wrong : ⊥ = cc in wrong)
one_goes mode (Some other) asked none is =
    let same : other ≡ asked = cc in
    goes_by mode asked (goes asked mode) refl (ap (in_the_way mode) (sym same) ∙ none)

all_go : (mode : Mode) (others : List (List (ℕ × Mode))) (lock : ℕ) → marks (in_the_way mode) others lock ≡ 0 → AllGo mode others lock
all_go mode [] lock none = tt
all_go mode (other ∷ others) lock none =
    (λ asked is. one_goes mode (asks other lock) asked (omega (arith, none)) is, all_go mode others lock (omega (arith, none)))

none_by : (mode : Mode) (o : Option Mode) → ((asked : Mode) → o ≡ Some asked → goes asked mode ≡ true) → option_map_or (in_the_way mode) o 0 ≡ 0
none_by mode None go = refl
none_by mode (Some asked) go = ap (λ b. if b then 0 else 1) (go asked refl)

none_in_the_way : (mode : Mode) (others : List (List (ℕ × Mode))) (lock : ℕ) → AllGo mode others lock → marks (in_the_way mode) others lock ≡ 0
none_in_the_way mode [] lock go = refl
none_in_the_way mode (other ∷ others) lock go = omega (arith, none_by mode (asks other lock) go.0, none_in_the_way mode others lock go.1)

-- in a footprint that rises, each demand is what is asked of its lock
not_asked_first : (low lock : ℕ) (d : ℕ × Mode) (rest : List (ℕ × Mode)) (b : Bool) → (d.0 == lock) ≡ b → lock ≤ low → low < d.0 → asks rest lock ≡ None → joined (only_if b d.1) (asks rest lock) ≡ None
not_asked_first low lock d rest true is below above none = absurd (let same : d.0 ≡ lock = (Decides-eqb d.0 lock).0 is in omega (arith, same, below, above))
not_asked_first low lock d rest false is below above none = none

not_asked_below : (low lock : ℕ) (footprint : List (ℕ × Mode)) → RisesFrom low (locks_of footprint) → lock ≤ low → asks footprint lock ≡ None
not_asked_below low lock [] rises below = refl
not_asked_below low lock (d ∷ rest) rises below =
    not_asked_first low lock d rest (d.0 == lock) refl below rises.0 (not_asked_below d.0 lock rest rises.1 (omega (arith, below, rises.0)))

rest_rises : (d : ℕ × Mode) (rest : List (ℕ × Mode)) → RisesFrom d.0 (locks_of rest) → Rises (locks_of rest)
rest_rises d [] rises = tt
rest_rises d (e ∷ rest) rises = rises.1

asked_here : (d : ℕ × Mode) (rest : List (ℕ × Mode)) → asks rest d.0 ≡ None → asks (d ∷ rest) d.0 ≡ Some d.1
asked_here d rest none = ap (λ b. joined (only_if b d.1) (asks rest d.0)) ((Decides-eqb d.0 d.0).1 refl) ∙ ap (joined (Some d.1)) none

asked_later : (d : ℕ × Mode) (lock : ℕ) (mode : Mode) (rest : List (ℕ × Mode)) (b : Bool) → (d.0 == lock) ≡ b → RisesFrom d.0 (locks_of rest) → asks rest lock ≡ Some mode → joined (only_if b d.1) (asks rest lock) ≡ Some mode
asked_later d lock mode rest true is rises asked =
    absurd (let same : d.0 ≡ lock = (Decides-eqb d.0 lock).0 is in let none : asks rest lock ≡ None = not_asked_below d.0 lock rest rises (omega (arith, same)) in let wrong : ⊥ = cc in wrong)
asked_later d lock mode rest false is rises asked = asked

asks-among : (footprint : List (ℕ × Mode)) (d : ℕ × Mode) → Rises (locks_of footprint) → Among d footprint → asks footprint d.0 ≡ Some d.1
asks-among [] d rises among = absurd among
asks-among (first ∷ rest) d rises (inl same) =
    subst (λ (x : ℕ × Mode). asks (first ∷ rest) x.0 ≡ Some x.1) (sym same) (asked_here first rest (not_asked_below first.0 first.0 rest rises (omega arith)))
asks-among (first ∷ rest) d rises (inr later) =
    asked_later first d.0 d.1 rest (first.0 == d.0) refl rises (asks-among rest d (rest_rises first rest rises) later)

among_by : (first : ℕ × Mode) (rest : List (ℕ × Mode)) (lock : ℕ) (mode : Mode) (b : Bool) → (first.0 == lock) ≡ b → RisesFrom first.0 (locks_of rest) → joined (only_if b first.1) (asks rest lock) ≡ Some mode → (asks rest lock ≡ Some mode → Among (lock, mode) rest) → Among (lock, mode) (first ∷ rest)
among_by first rest lock mode true is rises asked later =
    let same : first.0 ≡ lock = (Decides-eqb first.0 lock).0 is in
    let none : asks rest lock ≡ None = not_asked_below first.0 lock rest rises (omega (arith, same)) in
    let here : Some first.1 ≡ Some mode = ap (joined (Some first.1)) (sym none) ∙ asked in
    let same_mode : first.1 ≡ mode = cc in
    inl (ap (λ n. (n, mode)) (sym same) ∙ ap (λ m. (first.0, m)) (sym same_mode))
among_by first rest lock mode false is rises asked later = inr (later asked)

Among-asked : (footprint : List (ℕ × Mode)) (lock : ℕ) (mode : Mode) → Rises (locks_of footprint) → asks footprint lock ≡ Some mode → Among (lock, mode) footprint
Among-asked [] lock mode rises asked = absurd (let wrong : ⊥ = cc in wrong)
Among-asked (first ∷ rest) lock mode rises asked =
    among_by first rest lock mode (first.0 == lock) refl rises asked (λ later. Among-asked rest lock mode (rest_rises first rest rises) later)

-- a search that finds nothing
none_found : {X : Type 0} (p : X → Bool) (x : X) (xs : List X) (b : Bool) → p x ≡ b → (if not b then Some x else find (λ y. not (p y)) xs) ≡ None → (p x ≡ true) × (find (λ y. not (p y)) xs ≡ None)
none_found p x xs true is none = (is, none)
none_found p x xs false is none = absurd (let wrong : ⊥ = cc in wrong)

each_by_search : {X : Type 0} (p : X → Bool) (xs : List X) → find (λ x. not (p x)) xs ≡ None → AllByRecursion (λ x. p x ≡ true) xs
each_by_search p [] none = tt
each_by_search p (x ∷ xs) none = let both = none_found p x xs (p x) refl none in (both.0, each_by_search p xs both.1)

search_by : {X : Type 0} (p : X → Bool) (x : X) (xs : List X) (b : Bool) → b ≡ true → find (λ y. not (p y)) xs ≡ None → (if not b then Some x else find (λ y. not (p y)) xs) ≡ None
search_by p x xs true is none = none
search_by p x xs false is none = absurd (let wrong : ⊥ = cc in wrong)

search_by_each : {X : Type 0} (p : X → Bool) (xs : List X) → AllByRecursion (λ x. p x ≡ true) xs → find (λ x. not (p x)) xs ≡ None
search_by_each p [] each = refl
search_by_each p (x ∷ xs) each = search_by p x xs (p x) each.0 (search_by_each p xs each.1)

pub mapped_none : {A B : Type 0} (f : A → B) (o : Option A) → option_map f o ≡ None → o ≡ None
mapped_none f None none = refl
mapped_none f (Some a) none = absurd (let wrong : ⊥ = cc in wrong)

-- all demands are admitted
abbrev AllAdmitted : List (List (ℕ × Mode)) → List (ℕ × Mode) → Type 0
AllAdmitted others footprint = AllByRecursion (λ (d : ℕ × Mode). admits (word_of others d.0) d.1 ≡ true) footprint

clear_of_one : (others : List (List (ℕ × Mode))) (footprint other : List (ℕ × Mode)) → length others < 1048576 → Rises (locks_of footprint) → AllAdmitted others footprint → Among other others → Clash other footprint → ⊥
clear_of_one others footprint other few rises admitted among clash =
    let here = Among-asked footprint clash.lock clash.beside rises clash.asked_too in
    let has_room = Each-among (λ (d : ℕ × Mode). admits (word_of others d.0) d.1 ≡ true) footprint (clash.lock, clash.beside) admitted here in
    let go = all_go clash.beside others clash.lock (by_admits clash.beside others clash.lock few has_room) in
    let goes_too : goes clash.mode clash.beside ≡ true = Each-among (λ other. (asked : Mode) → asks other clash.lock ≡ Some asked → goes asked clash.beside ≡ true) others other go among clash.mode clash.asked in
    let apart = clash.apart in
    let wrong : ⊥ = cc in
    wrong

goes_unless : (other footprint : List (ℕ × Mode)) (lock : ℕ) (asked mode : Mode) (b : Bool) → goes asked mode ≡ b → asks other lock ≡ Some asked → asks footprint lock ≡ Some mode → (Clash other footprint → ⊥) → b ≡ true
goes_unless other footprint lock asked mode true is of_other of_this clear = refl
goes_unless other footprint lock asked mode false is of_other of_this clear =
    absurd (clear (record { lock = lock; mode = asked; beside = mode; asked = of_other; asked_too = of_this; apart = is }))

admitted_by_clear : (others : List (List (ℕ × Mode))) (footprint : List (ℕ × Mode)) (d : ℕ × Mode) → length others < 1048576 → Rises (locks_of footprint) → IsClear others footprint → Among d footprint → admits (word_of others d.0) d.1 ≡ true
admitted_by_clear others footprint d few rises clear among =
    let asked = asks-among footprint d rises among in
    let go : AllGo d.1 others d.0 =
    Each-from_among (λ other. (m : Mode) → asks other d.0 ≡ Some m → goes m d.1 ≡ true) others
    (λ other of_others m is. goes_unless other footprint d.0 m d.1 (goes m d.1) refl is asked (Each-among (λ x. Clash x footprint → ⊥) others other clear of_others)) in
    to_admits d.1 others d.0 few (none_in_the_way d.1 others d.0 go)

pub words_tell_clashes : (others : List (List (ℕ × Mode))) (footprint : List (ℕ × Mode)) → length others < 2 ^ 20 → Rises (locks_of footprint) → (first_busy (word_of others) footprint ≡ None) ↔ IsClear others footprint
words_tell_clashes others footprint few rises =
    let admitted : ℕ × Mode → Bool = λ (d : ℕ × Mode). admits (word_of others d.0) d.1 in (
      λ none. Each-from_among (λ other. Clash other footprint → ⊥) others (λ other among. clear_of_one others footprint other few rises (each_by_search admitted footprint (mapped_none _ (find (λ d. not (admitted d)) footprint) none)) among),
      λ clear. ap (option_map (λ (d : ℕ × Mode). record { lock = d.0; word = word_of others d.0 })) (search_by_each admitted footprint (Each-from_among (λ d. admitted d ≡ true) footprint (λ d among. admitted_by_clear others footprint d few rises clear among))),
    )
