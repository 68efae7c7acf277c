-- The order of the conflict set: lists in order, joined and mapped, and the tags and choices in theirs.
use Rattle.std.proofs.Common.{◌≡◌, ℕ, ◌+◌, ◌<◌, List, [], ◌∷◌, ◌++◌, Bool, true, false, ◌&&◌, ◌||◌, ◌==◌, nat_lt, Option, Some, None, map, refl, arith, rules, tests}
use Rattle.std.specs.List.{AllByRecursion, enumerate_from, flat_map}
use Rattle.rule_base.specs.declared.condition.Cond.{Cond}
use Rattle.rule_base.specs.declared.element.Element.{Element}
use Rattle.rule_base.specs.declared.instantiation.Choice.{Choice}
use Rattle.rule_base.specs.declared.program.Rule.{Rule}
use Rattle.rule_base.specs.declared.program.Program.{Program}
use Rattle.rule_base.specs.Memory.{Memory, Rises, RisesFrom, tags_of}
use Rattle.rule_base.specs.Bindings.{Bindings, no_bindings}
use Rattle.rule_base.specs.Acceptance.{accepts}
use Rattle.rule_base.specs.Match.{accepts_some}
use Rattle.rule_base.specs.ConflictSet.{conflict_set, instantiations, tag_lists, tags_by, unless, with_bindings}
use Rattle.rule_base.specs.MatchLaws.{IsInOrder, comes_before, tags_before}
use Rattle.rule_base.proofs.EachLemmas.{Each-always, Each-append, Each-both, Each-map, Each-weaker}
use Rattle.rule_base.proofs.MemoryLemmas.{RisesFrom-lower}

-- each element of the first list comes before each of the second
abbrev AllBefore : {X : Type 0} → (X → X → Bool) → List X → List X → Type 0
AllBefore before xs ys = AllByRecursion (λ x. AllByRecursion (λ y. before x y ≡ true) ys) xs

IsInOrder-append : {X : Type 0} (before : X → X → Bool) (xs ys : List X) → IsInOrder before xs → IsInOrder before ys → AllBefore before xs ys → IsInOrder before (xs ++ ys)
IsInOrder-append before [] ys of_xs of_ys cross = of_ys
IsInOrder-append before (x ∷ xs) ys of_xs of_ys cross = (Each-append (λ y. before x y ≡ true) xs ys of_xs.0 cross.0, IsInOrder-append before xs ys of_xs.1 of_ys cross.1)

IsInOrder-map : {X Y : Type 0} (before : X → X → Bool) (after : Y → Y → Bool) (f : X → Y) → ((x z : X) → before x z ≡ true → after (f x) (f z) ≡ true) → (xs : List X) → IsInOrder before xs → IsInOrder after (map f xs)
IsInOrder-map before after f keeps [] of_xs = tt
IsInOrder-map before after f keeps (x ∷ xs) of_xs = (Each-map (λ y. after (f x) y ≡ true) f xs (Each-weaker (λ z. before x z ≡ true) (λ z. after (f x) (f z) ≡ true) (keeps x) xs of_xs.0), IsInOrder-map before after f keeps xs of_xs.1)

-- a list comes before lists joined, where it comes before each of them
all_before_joined : {X Y : Type 0} (earlier : X → X → Bool) (before : Y → Y → Bool) (f : X → List Y) (x : X) (xs : List X) → ((z : X) → earlier x z ≡ true → AllBefore before (f x) (f z)) → AllByRecursion (λ z. earlier x z ≡ true) xs → AllBefore before (f x) (flat_map f xs)
all_before_joined earlier before f x [] cross of_xs = Each-always (λ y. AllByRecursion (λ w. before y w ≡ true) []) (λ y. tt) (f x)
all_before_joined earlier before f x (z ∷ xs) cross of_xs = Each-both (λ y. AllByRecursion (λ w. before y w ≡ true) (f z)) (λ y. AllByRecursion (λ w. before y w ≡ true) (flat_map f xs)) (λ y. AllByRecursion (λ w. before y w ≡ true) (f z ++ flat_map f xs)) (λ y here later. Each-append (λ w. before y w ≡ true) (f z) (flat_map f xs) here later) (f x) (cross z of_xs.0) (all_before_joined earlier before f x xs cross of_xs.1)

IsInOrder-flat_map : {X Y : Type 0} (earlier : X → X → Bool) (before : Y → Y → Bool) (f : X → List Y) → ((x z : X) → earlier x z ≡ true → AllBefore before (f x) (f z)) → (xs : List X) → IsInOrder earlier xs → AllByRecursion (λ x. IsInOrder before (f x)) xs → IsInOrder before (flat_map f xs)
IsInOrder-flat_map earlier before f cross [] of_xs each = tt
IsInOrder-flat_map earlier before f cross (x ∷ xs) of_xs each = IsInOrder-append before (f x) (flat_map f xs) each.0 (IsInOrder-flat_map earlier before f cross xs of_xs.1 each.1) (all_before_joined earlier before f x xs (cross x) of_xs.0)

-- numbers that rise come each before all later ones
abbrev earlier_tag : Element → Element → Bool
earlier_tag e later = nat_lt e.tag later.tag

above_all : (low : ℕ) (memory : Memory) → RisesFrom low (tags_of memory) → AllByRecursion (λ (e : Element). nat_lt low e.tag ≡ true) memory
above_all low [] rises = tt
above_all low (e ∷ memory) rises = (search (rules, tests, rises.0), above_all low memory (RisesFrom-lower low e.tag (tags_of memory) (omega (arith, rises.0)) rises.1))

rising_from : (low : ℕ) (memory : Memory) → RisesFrom low (tags_of memory) → IsInOrder earlier_tag memory
rising_from low [] rises = tt
rising_from low (e ∷ memory) rises = (above_all e.tag memory rises.1, rising_from e.tag memory rises.1)

in_order_rising : (memory : Memory) → Rises (tags_of memory) → IsInOrder earlier_tag memory
in_order_rising [] rises = tt
in_order_rising (e ∷ memory) rises = (above_all e.tag memory rises, rising_from e.tag memory rises)

-- what comes first decides, and then the rest
first_decides : (m n : ℕ) (rest : Bool) → nat_lt m n ≡ true → (nat_lt m n || ((m == n) && rest)) ≡ true
first_decides m n rest less = rw less refl

rest_decides : (n : ℕ) (rest : Bool) → rest ≡ true → (nat_lt n n || ((n == n) && rest)) ≡ true
rest_decides n rest is = let below : nat_lt n n ≡ false = search (rules, tests) in let same : (n == n) ≡ true = search (rules, tests) in rw (below, same, is) refl

-- the lists of tags of some condition elements are in order, whatever the bindings
abbrev RestInOrder : List Cond → Memory → Type 0
RestInOrder conds memory = (bindings : Bindings) → IsInOrder tags_before (tag_lists conds memory bindings)

of_element : (conds : List Cond) (memory : Memory) (tag : ℕ) (o : Option Bindings) → RestInOrder conds memory → IsInOrder tags_before (map (λ (tags : List ℕ). tag ∷ tags) (with_bindings (tag_lists conds memory) o))
of_element conds memory tag None rest = tt
of_element conds memory tag (Some after) rest = IsInOrder-map tags_before tags_before (λ (tags : List ℕ). tag ∷ tags) (λ tags others is. rest_decides tag (tags_before tags others) is) (tag_lists conds memory after) (rest after)

with_tags : (m n : ℕ) (lists others : List (List ℕ)) → nat_lt m n ≡ true → AllBefore tags_before (map (λ (tags : List ℕ). m ∷ tags) lists) (map (λ (tags : List ℕ). n ∷ tags) others)
with_tags m n lists others less = Each-map (λ tags. AllByRecursion (λ other. tags_before tags other ≡ true) (map (λ (ts : List ℕ). n ∷ ts) others)) (λ (ts : List ℕ). m ∷ ts) lists (Each-always (λ (tags : List ℕ). AllByRecursion (λ other. tags_before (m ∷ tags) other ≡ true) (map (λ (ts : List ℕ). n ∷ ts) others)) (λ tags. Each-map (λ other. tags_before (m ∷ tags) other ≡ true) (λ (ts : List ℕ). n ∷ ts) others (Each-always (λ (other : List ℕ). tags_before (m ∷ tags) (n ∷ other) ≡ true) (λ other. first_decides m n (tags_before tags other) less) others)) lists)

of_negated : (conds : List Cond) (memory : Memory) (bindings : Bindings) (b : Bool) → RestInOrder conds memory → IsInOrder tags_before (unless b (tag_lists conds memory) bindings)
of_negated conds memory bindings true rest = tt
of_negated conds memory bindings false rest = rest bindings

by_sign : (negated : Bool) (cond : Cond) (conds : List Cond) (memory : Memory) (bindings : Bindings) → IsInOrder earlier_tag memory → RestInOrder conds memory → IsInOrder tags_before (tags_by negated cond memory bindings (tag_lists conds memory))
by_sign true cond conds memory bindings rising rest = of_negated conds memory bindings (accepts_some cond bindings memory) rest
by_sign false cond conds memory bindings rising rest =
    let lists_of : Element → List (List ℕ) = λ e. map (λ (tags : List ℕ). e.tag ∷ tags) (with_bindings (tag_lists conds memory) (accepts cond bindings e)) in
    IsInOrder-flat_map earlier_tag tags_before lists_of (λ e later less. with_tags e.tag later.tag (with_bindings (tag_lists conds memory) (accepts cond bindings e)) (with_bindings (tag_lists conds memory) (accepts cond bindings later)) less) memory rising (Each-always (λ (e : Element). IsInOrder tags_before (lists_of e)) (λ e. of_element conds memory e.tag (accepts cond bindings e) rest) memory)

lists_in_order : (conds : List Cond) (memory : Memory) → IsInOrder earlier_tag memory → RestInOrder conds memory
lists_in_order [] memory rising bindings = (tt, tt)
lists_in_order (cond ∷ conds) memory rising bindings = by_sign cond.negated cond conds memory bindings rising (lists_in_order conds memory rising)

-- rules in the order of their numbers
abbrev earlier_rule : ℕ × Rule → ℕ × Rule → Bool
earlier_rule numbered later = nat_lt numbered.0 later.0

numbers_above : (low next : ℕ) (rules' : List Rule) → low < next → AllByRecursion (λ (n : ℕ × Rule). nat_lt low n.0 ≡ true) (enumerate_from next rules')
numbers_above low next [] below = tt
numbers_above low next (rule ∷ rules') below = (search (rules, tests, below), numbers_above low (next + 1) rules' (omega (arith, below)))

rules_in_order : (next : ℕ) (rules' : List Rule) → IsInOrder earlier_rule (enumerate_from next rules')
rules_in_order next [] = tt
rules_in_order next (rule ∷ rules') = (numbers_above next (next + 1) rules' (omega arith), rules_in_order (next + 1) rules')

abbrev choice : ℕ → List ℕ → Choice
choice number tags = record { rule = number; tags = tags }

of_rule : (memory : Memory) (numbered : ℕ × Rule) → IsInOrder earlier_tag memory → IsInOrder comes_before (instantiations memory numbered)
of_rule memory numbered rising = IsInOrder-map tags_before comes_before (choice numbered.0) (λ tags others is. rest_decides numbered.0 (tags_before tags others) is) (tag_lists numbered.1.conds memory (no_bindings numbered.1.vars)) (lists_in_order numbered.1.conds memory rising (no_bindings numbered.1.vars))

of_rules : (m n : ℕ) (lists others : List (List ℕ)) → nat_lt m n ≡ true → AllBefore comes_before (map (choice m) lists) (map (choice n) others)
of_rules m n lists others less = Each-map (λ c. AllByRecursion (λ d. comes_before c d ≡ true) (map (choice n) others)) (choice m) lists (Each-always (λ (tags : List ℕ). AllByRecursion (λ d. comes_before (choice m tags) d ≡ true) (map (choice n) others)) (λ tags. Each-map (λ d. comes_before (choice m tags) d ≡ true) (choice n) others (Each-always (λ (other : List ℕ). comes_before (choice m tags) (choice n other) ≡ true) (λ other. first_decides m n (tags_before tags other) less) others)) lists)

-- the conflict set is in order
pub IsInOrder-conflict_set : (program : Program) (memory : Memory) → Rises (tags_of memory) → IsInOrder comes_before (conflict_set program memory)
IsInOrder-conflict_set program memory rises =
    let rising = in_order_rising memory rises in
    IsInOrder-flat_map earlier_rule comes_before (instantiations memory) (λ numbered later less. of_rules numbered.0 later.0 (tag_lists numbered.1.conds memory (no_bindings numbered.1.vars)) (tag_lists later.1.conds memory (no_bindings later.1.vars)) less) (enumerate_from 0 program.rules) (rules_in_order 0 program.rules) (Each-always (λ (n : ℕ × Rule). IsInOrder comes_before (instantiations memory n)) (λ n. of_rule memory n rising) (enumerate_from 0 program.rules))

neither : (n : ℕ) (rest : Bool) → rest ≡ false → (nat_lt n n || ((n == n) && rest)) ≡ false
neither n rest is = let below : nat_lt n n ≡ false = search (rules, tests) in let same : (n == n) ≡ true = search (rules, tests) in rw (below, same, is) refl

tags_before-itself : (tags : List ℕ) → tags_before tags tags ≡ false
tags_before-itself [] = refl
tags_before-itself (n ∷ tags) = neither n (tags_before tags tags) (tags_before-itself tags)

-- no choice comes before itself
pub comes_before-itself : (c : Choice) → comes_before c c ≡ false
comes_before-itself c = neither c.rule (tags_before c.tags c.tags) (tags_before-itself c.tags)
