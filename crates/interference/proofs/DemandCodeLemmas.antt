-- Where a demand goes in a footprint, and how demands add up.
use Rattle.std.proofs.Common.{◌≡◌, ℕ, zero, suc, ◌+◌, ◌<◌, ◌≤◌, List, [], ◌∷◌, ◌++◌, Bool, true, false, if◌then◌else◌, Option, Some, None, cond, drop, filter_map, flat_map, length, map, nat_lt, slice_get, slice_set, not, zip, ◌==◌, refl, sym, ◌∙◌, ap, arith, rules, tests, append_assoc}
use Rattle.std.specs.Option.{option_map_or}
use Rattle.rule_base.specs.declared.action.Term.{Term}
use Rattle.rule_base.specs.declared.action.Action.{Action}
use Rattle.rule_base.specs.declared.action.Action.TheVariants as action
use Rattle.rule_base.specs.declared.program.Class.{Class}
use Rattle.rule_base.specs.declared.program.Program.{Program}
use Rattle.rule_base.specs.Memory.{Rises, RisesFrom}
use Rattle.rule_base.specs.Sound.{IsSound, IsSoundRule, SoundAction, SoundActions, SoundConds, known_after_action, known_after_cond, known_after_conds, positive_classes, sizes_of}
use Rattle.rule_base.proofs.EachLemmas.{Each-filter, Each-slice_get}
use Rattle.std.specs.List.{AllByRecursion, cons_option, insert, range_with_len}
use Rattle.std.proofs.lemmas.List.{map-append}
use Rattle.rule_base.specs.declared.element.Element.{Element}
use Rattle.rule_base.specs.declared.condition.Cond.{Cond}
use Rattle.rule_base.specs.declared.program.Rule.{Rule}
use Rattle.rule_base.proofs.StepByStepLemmas.{drop_next}
use Rattle.std.proofs.lemmas.Bool.Decides.{Decides-eqb}
use Rattle.rule_base.specs.declared.lock.Mode.{Mode}
use Rattle.interference.specs.Modes.{both}
use Rattle.interference.specs.Footprint.{gathered, in_mode, with_demand}
use Rattle.interference.specs.Given.{negated, positive, taken, value_at}
use Rattle.interference.specs.Locks.{every_region, stripe}
use Rattle.interference.specs.Regions.{grown_regions, known_after, region_locks, watched_regions}
use Rattle.interference.specs.Finding.{HasFewClasses, IsOfFewClasses, asked_at, designated_locks, lesser, watched_if_negated, with_demands}
use Rattle.rule_base.specs.Chains.{only_if}
use Rattle.interference.proofs.OptionLemmas.{Held-some}

-- demands of two lists, one after the other
pub with_demands-append : (footprint one other : List (ℕ × Mode)) → with_demands footprint (one ++ other) ≡ with_demands (with_demands footprint one) other
with_demands-append footprint [] other = refl
with_demands-append footprint (demand ∷ one) other = with_demands-append (with_demand footprint demand) one other

lt_not_eq : (n m : ℕ) → nat_lt n m ≡ true → (m == n) ≡ false
lt_not_eq n m lt = search (rules, tests, lt)

lt_not_lt : (n m : ℕ) → nat_lt n m ≡ true → nat_lt m n ≡ false
lt_not_lt n m lt = search (rules, tests, lt)

not_below_itself : (n : ℕ) → nat_lt n n ≡ false
not_below_itself n = search (rules, tests)

above_or_equal : (n m : ℕ) → nat_lt n m ≡ false → (n == m) ≡ false → nat_lt m n ≡ true
above_or_equal n m not_less not_equal = search (rules, tests, not_less, not_equal)

-- a demand of a greater lock goes behind the first
with_demand-behind : (first : ℕ × Mode) (rest : List (ℕ × Mode)) (lock : ℕ) (mode : Mode) → nat_lt first.0 lock ≡ true → with_demand (first ∷ rest) (lock, mode) ≡ first ∷ with_demand rest (lock, mode)
with_demand-behind first rest lock mode less = rw (lt_not_lt first.0 lock less, lt_not_eq first.0 lock less) refl

-- one of the first lock joins it
with_demand-first : (first : ℕ × Mode) (rest : List (ℕ × Mode)) (mode : Mode) → with_demand (first ∷ rest) (first.0, mode) ≡ (first.0, both first.1 mode) ∷ rest
with_demand-first first rest mode = rw (not_below_itself first.0, (Decides-eqb first.0 first.0).1 refl) refl

-- and one of a lesser lock goes before it
with_demand-before : (first : ℕ × Mode) (rest : List (ℕ × Mode)) (lock : ℕ) (mode : Mode) → nat_lt lock first.0 ≡ true → with_demand (first ∷ rest) (lock, mode) ≡ (lock, mode) ∷ first ∷ rest
with_demand-before first rest lock mode less = rw less refl

next_place : (n : ℕ) → n + 1 ≡ suc n
next_place n = omega arith

-- a demand of a lock that is asked for already joins it
joined_first : (first : ℕ × Mode) (rest : List (ℕ × Mode)) (lock : ℕ) (mode asked : Mode) (less : Bool) → nat_lt first.0 lock ≡ less → (asked_at rest (lesser lock rest) lock ≡ Some asked → with_demand rest (lock, mode) ≡ slice_set rest (lesser lock rest) (lock, both asked mode))
    → asked_at (first ∷ rest) (if less then lesser lock rest + 1 else 0) lock ≡ Some asked → with_demand (first ∷ rest) (lock, mode) ≡ slice_set (first ∷ rest) (if less then lesser lock rest + 1 else 0) (lock, both asked mode)
joined_first first rest lock mode asked true is later at =
    let place = next_place (lesser lock rest) in
    with_demand-behind first rest lock mode is ∙ ap (λ ds. first ∷ ds) (later (ap (λ n. asked_at (first ∷ rest) n lock) (sym place) ∙ at)) ∙ ap (λ n. slice_set (first ∷ rest) n (lock, both asked mode)) (sym place)
joined_first first rest lock mode asked false is later at =
    let held = Held-some (first.0 == lock) first.1 asked at in
    let same : first.0 ≡ lock = (Decides-eqb first.0 lock).0 held.holds in
    ap (λ n. with_demand (first ∷ rest) (n, mode)) (sym same) ∙ with_demand-first first rest mode ∙ ap (λ n. (n, both first.1 mode) ∷ rest) same ∙ ap (λ m. (lock, both m mode) ∷ rest) held.same

pub with_demand-joined : (demands : List (ℕ × Mode)) (lock : ℕ) (mode asked : Mode) → asked_at demands (lesser lock demands) lock ≡ Some asked → with_demand demands (lock, mode) ≡ slice_set demands (lesser lock demands) (lock, both asked mode)
with_demand-joined [] lock mode asked at = absurd (let wrong : ⊥ = cc in wrong)
with_demand-joined (first ∷ rest) lock mode asked at = joined_first first rest lock mode asked (nat_lt first.0 lock) refl (with_demand-joined rest lock mode asked) at

-- and one of another lock goes in its place
not_asked : (b : Bool) (mode : Mode) → only_if b mode ≡ None → b ≡ false
not_asked true mode none = absurd (let wrong : ⊥ = cc in wrong)
not_asked false mode none = refl

inserted_first : (first : ℕ × Mode) (rest : List (ℕ × Mode)) (lock : ℕ) (mode : Mode) (less : Bool) → nat_lt first.0 lock ≡ less → (asked_at rest (lesser lock rest) lock ≡ None → with_demand rest (lock, mode) ≡ insert rest (lesser lock rest) (lock, mode))
    → asked_at (first ∷ rest) (if less then lesser lock rest + 1 else 0) lock ≡ None → with_demand (first ∷ rest) (lock, mode) ≡ insert (first ∷ rest) (if less then lesser lock rest + 1 else 0) (lock, mode)
inserted_first first rest lock mode true is later none =
    let place = next_place (lesser lock rest) in
    with_demand-behind first rest lock mode is ∙ ap (λ ds. first ∷ ds) (later (ap (λ n. asked_at (first ∷ rest) n lock) (sym place) ∙ none)) ∙ ap (λ n. insert (first ∷ rest) n (lock, mode)) (sym place)
inserted_first first rest lock mode false is later none =
    with_demand-before first rest lock mode (above_or_equal first.0 lock is (not_asked (first.0 == lock) first.1 none))

pub with_demand-inserted : (demands : List (ℕ × Mode)) (lock : ℕ) (mode : Mode) → asked_at demands (lesser lock demands) lock ≡ None → with_demand demands (lock, mode) ≡ insert demands (lesser lock demands) (lock, mode)
with_demand-inserted [] lock mode none = refl
with_demand-inserted (first ∷ rest) lock mode none = inserted_first first rest lock mode (nat_lt first.0 lock) refl (with_demand-inserted rest lock mode) none

-- demands in one mode of two lists of locks
pub with_demands-in_mode : (footprint : List (ℕ × Mode)) (mode : Mode) (locks more : List ℕ) → with_demands footprint (in_mode mode (locks ++ more)) ≡ with_demands (with_demands footprint (in_mode mode locks)) (in_mode mode more)
with_demands-in_mode footprint mode locks more =
    ap (with_demands footprint) (map-append (λ (lock : ℕ). (lock, mode)) locks more) ∙ with_demands-append footprint (in_mode mode locks) (in_mode mode more)

-- one designator before others
designated_by : (o : Option ℕ) (rest : List ℕ) → map stripe (cons_option o rest) ≡ map stripe (cons_option o []) ++ map stripe rest
designated_by None rest = refl
designated_by (Some tag) rest = refl

pub designated_locks-first : (tags : List ℕ) (designator : ℕ) (rest : List ℕ) → designated_locks tags (designator ∷ rest) ≡ designated_locks tags (designator ∷ []) ++ designated_locks tags rest
designated_locks-first tags designator rest = designated_by (slice_get tags designator) (filter_map (slice_get tags) rest)

pub designated_locks-append : (tags designators more : List ℕ) → designated_locks tags (designators ++ more) ≡ designated_locks tags designators ++ designated_locks tags more
designated_locks-append tags [] more = refl
designated_locks-append tags (designator ∷ rest) more =
    designated_locks-first tags designator (rest ++ more)
    ∙ ap (λ locks. designated_locks tags (designator ∷ []) ++ locks) (designated_locks-append tags rest more)
    ∙ sym (append_assoc (designated_locks tags (designator ∷ [])) (designated_locks tags rest) (designated_locks tags more))
    ∙ ap (λ locks. locks ++ designated_locks tags more) (sym (designated_locks-first tags designator rest))

-- one condition element before others
negated_by : (splits : List (Option ℕ)) (rule : Rule) (elements : List Element) (c : Cond) (conds : List Cond) (b : Bool) → c.negated ≡ b → flat_map (watched_regions splits rule elements) (cond b (c ∷ negated conds) (negated conds)) ≡ (if b then watched_regions splits rule elements c else []) ++ flat_map (watched_regions splits rule elements) (negated conds)
negated_by splits rule elements c conds true is = refl
negated_by splits rule elements c conds false is = refl

pub watched-first : (splits : List (Option ℕ)) (rule : Rule) (elements : List Element) (c : Cond) (conds : List Cond) → flat_map (watched_regions splits rule elements) (negated (c ∷ conds)) ≡ watched_if_negated splits rule elements c ++ flat_map (watched_regions splits rule elements) (negated conds)
watched-first splits rule elements c conds = negated_by splits rule elements c conds c.negated refl

-- each number of a range in its place
slice_get-range : (first count n : ℕ) → n < count → slice_get (range_with_len first count) n ≡ Some (first + n)
slice_get-range first zero n within = absurd (omega (arith, within))
slice_get-range first (suc count) zero within = ap (λ k. Some k) (omega arith)
slice_get-range first (suc count) (suc n) within = slice_get-range (first + 1) count n (omega (arith, within)) ∙ ap (λ k. Some k) (omega arith)

pub every_region-next : (n : ℕ) → n < 16 → drop n every_region ≡ n ∷ drop (n + 1) every_region
every_region-next n within =
    let same : 0 + n ≡ n = omega arith in
    drop_next every_region n n (slice_get-range 0 16 n within ∙ ap (λ k. Some k) same)

-- pairs by place
zip-short : {X Y : Type 0} (xs : List X) (ys : List Y) (i : ℕ) → length ys ≤ i → slice_get (zip xs ys) i ≡ None
zip-short [] ys i past = refl
zip-short (x ∷ xs) [] i past = refl
zip-short (x ∷ xs) (y ∷ ys) zero past = absurd (omega (arith, past))
zip-short (x ∷ xs) (y ∷ ys) (suc i) past = zip-short xs ys i (omega (arith, past))

zip-none : {X Y : Type 0} (xs : List X) (ys : List Y) (i : ℕ) → slice_get xs i ≡ None → slice_get (zip xs ys) i ≡ None
zip-none [] ys i none = refl
zip-none (x ∷ xs) [] i none = refl
zip-none (x ∷ xs) (y ∷ ys) zero none = absurd (let wrong : ⊥ = cc in wrong)
zip-none (x ∷ xs) (y ∷ ys) (suc i) none = zip-none xs ys i none

zip-some : {X Y : Type 0} (xs : List X) (ys : List Y) (i : ℕ) (x : X) (y : Y) → slice_get xs i ≡ Some x → slice_get ys i ≡ Some y → slice_get (zip xs ys) i ≡ Some (x, y)
zip-some [] ys i x y of_x of_y = absurd (let wrong : ⊥ = cc in wrong)
zip-some (z ∷ xs) [] i x y of_x of_y = absurd (let wrong : ⊥ = cc in wrong)
zip-some (z ∷ xs) (w ∷ ys) zero x y of_x of_y =
    let same : z ≡ x = cc in
    let same_too : w ≡ y = cc in
    ap (λ v. Some (v, w)) same ∙ ap (λ v. Some (x, v)) same_too
zip-some (z ∷ xs) (w ∷ ys) (suc i) x y of_x of_y = zip-some xs ys i x y of_x of_y

-- the regions of a modify, by what stands at its place
grown-pair : (splits : List (Option ℕ)) (rule : Rule) (elements : List Element) (at : ℕ) (settings : List (ℕ × Term)) (o : Option (Cond × Element)) → slice_get (taken rule.conds elements) at ≡ o → grown_regions splits rule elements (action.Modify at settings) ≡ option_map_or (λ (pair : Cond × Element). region_locks splits pair.0.class (λ attr. known_after rule elements attr (value_at pair attr) settings)) o []
grown-pair splits rule elements at settings o is = ap (λ p. option_map_or (λ (pair : Cond × Element). region_locks splits pair.0.class (λ attr. known_after rule elements attr (value_at pair attr) settings)) p []) is

pub grown-past : (splits : List (Option ℕ)) (rule : Rule) (elements : List Element) (at : ℕ) (settings : List (ℕ × Term)) → length elements ≤ at → grown_regions splits rule elements (action.Modify at settings) ≡ []
grown-past splits rule elements at settings past = grown-pair splits rule elements at settings None (zip-short (positive rule.conds) elements at past)

pub grown-nowhere : (splits : List (Option ℕ)) (rule : Rule) (elements : List Element) (at : ℕ) (settings : List (ℕ × Term)) → slice_get (positive rule.conds) at ≡ None → grown_regions splits rule elements (action.Modify at settings) ≡ []
grown-nowhere splits rule elements at settings none = grown-pair splits rule elements at settings None (zip-none (positive rule.conds) elements at none)

pub grown-at : (splits : List (Option ℕ)) (rule : Rule) (elements : List Element) (at : ℕ) (settings : List (ℕ × Term)) (c : Cond) (e : Element) → slice_get (positive rule.conds) at ≡ Some c → slice_get elements at ≡ Some e → grown_regions splits rule elements (action.Modify at settings) ≡ region_locks splits c.class (λ attr. known_after rule elements attr (value_at (c, e) attr) settings)
grown-at splits rule elements at settings c e of_c of_e = grown-pair splits rule elements at settings (Some (c, e)) (zip-some (positive rule.conds) elements at c e of_c of_e)

-- a positive condition element is of few classes, too
pub few_classes-at : (conds : List Cond) (at : ℕ) (c : Cond) → AllByRecursion (λ (x : Cond). x.class < 256) conds → slice_get (positive conds) at ≡ Some c → c.class < 256
few_classes-at conds at c few is = Each-slice_get (λ (x : Cond). x.class < 256) (positive conds) at c (Each-filter (λ (x : Cond). x.class < 256) (λ (x : Cond). not x.negated) conds few) is

-- a sound rule has few classes
few_conds : (sizes : List ℕ) (vars : ℕ) (known : List ℕ) (conds : List Cond) → length sizes ≤ 256 → SoundConds sizes vars known conds → AllByRecursion (λ (c : Cond). c.class < 256) conds
few_conds sizes vars known [] few sound = tt
few_conds sizes vars known (c ∷ conds) few sound = (omega (arith, few, sound.0), few_conds sizes vars (known_after_cond c.negated known c.tests) conds few sound.2)

pub within_by_get : (sizes : List ℕ) (i n : ℕ) → slice_get sizes i ≡ Some n → i < length sizes
within_by_get [] i n is = absurd (let wrong : ⊥ = cc in wrong)
within_by_get (s ∷ sizes) zero n is = omega arith
within_by_get (s ∷ sizes) (suc i) n is = omega (arith, within_by_get sizes i n is)

few_action : (sizes classes : List ℕ) (vars : ℕ) (known : List ℕ) (a : Action) → length sizes ≤ 256 → SoundAction sizes classes vars known a → IsOfFewClasses a
few_action sizes classes vars known (action.Make class size settings) few sound = omega (arith, few, within_by_get sizes class size sound.0)
few_action sizes classes vars known (action.Modify at settings) few sound = tt
few_action sizes classes vars known (action.Remove ats) few sound = tt
few_action sizes classes vars known (action.Bind var term) few sound = tt
few_action sizes classes vars known (action.Write items) few sound = tt
few_action sizes classes vars known action.Halt few sound = tt

few_actions : (sizes classes : List ℕ) (vars : ℕ) (known : List ℕ) (actions : List Action) → length sizes ≤ 256 → SoundActions sizes classes vars known actions → AllByRecursion IsOfFewClasses actions
few_actions sizes classes vars known [] few sound = tt
few_actions sizes classes vars known (a ∷ actions) few sound = (few_action sizes classes vars known a few sound.0, few_actions sizes classes vars (known_after_action known a) actions few sound.1)

pub length-sizes : (classes : List Class) → length (sizes_of classes) ≡ length classes
length-sizes [] = refl
length-sizes (c ∷ classes) = omega (arith, length-sizes classes)

pub HasFewClasses-sound : (program : Program) (at : ℕ) (rule : Rule) → IsSound program → slice_get program.rules at ≡ Some rule → HasFewClasses rule
HasFewClasses-sound program at rule sound is =
    let of_rule = Each-slice_get (IsSoundRule (sizes_of program.classes)) program.rules at rule sound.sound_rules is in
    let few : length (sizes_of program.classes) ≤ 256 = omega (arith, length-sizes program.classes, sound.few_classes) in
    record {
      conds = few_conds (sizes_of program.classes) rule.vars [] rule.conds few of_rule.sound_conds;
      actions = few_actions (sizes_of program.classes) (positive_classes rule.conds) rule.vars (known_after_conds [] rule.conds) rule.actions few of_rule.sound_actions;
    }

-- the locks of a footprint
abbrev pub locks_of : List (ℕ × Mode) → List ℕ
locks_of demands = map (λ (d : ℕ × Mode). d.0) demands

lt_from : (n m : ℕ) → nat_lt n m ≡ true → n < m
lt_from n m is = search (rules, tests, is)

above_from : (n m : ℕ) → nat_lt n m ≡ false → (n == m) ≡ false → m < n
above_from n m not_less not_equal = search (rules, tests, not_less, not_equal)

-- one more demand leaves locks that rise
rises_first : (low : ℕ) (first demand : ℕ × Mode) (rest : List (ℕ × Mode)) (less same : Bool) → nat_lt demand.0 first.0 ≡ less → (demand.0 == first.0) ≡ same → low < demand.0 → low < first.0 → RisesFrom first.0 (locks_of rest) → (first.0 < demand.0 → RisesFrom first.0 (locks_of (with_demand rest demand)))
    → RisesFrom low (locks_of (if less then demand ∷ first ∷ rest else if same then (first.0, both first.1 demand.1) ∷ rest else first ∷ with_demand rest demand))
rises_first low first demand rest true same is is_same of_demand of_first rises later = (of_demand, (lt_from demand.0 first.0 is, rises))
rises_first low first demand rest false true is is_same of_demand of_first rises later = (of_first, rises)
rises_first low first demand rest false false is is_same of_demand of_first rises later = (of_first, later (above_from demand.0 first.0 is is_same))

RisesFrom-with_demand : (low : ℕ) (list : List (ℕ × Mode)) (demand : ℕ × Mode) → low < demand.0 → RisesFrom low (locks_of list) → RisesFrom low (locks_of (with_demand list demand))
RisesFrom-with_demand low [] demand above rises = (above, tt)
RisesFrom-with_demand low (first ∷ rest) demand above rises =
    rises_first low first demand rest (nat_lt demand.0 first.0) (demand.0 == first.0) refl refl above rises.0 rises.1 (λ higher. RisesFrom-with_demand first.0 rest demand higher rises.1)

rises_at_first : (first demand : ℕ × Mode) (rest : List (ℕ × Mode)) (less same : Bool) → nat_lt demand.0 first.0 ≡ less → (demand.0 == first.0) ≡ same → RisesFrom first.0 (locks_of rest)
    → Rises (locks_of (if less then demand ∷ first ∷ rest else if same then (first.0, both first.1 demand.1) ∷ rest else first ∷ with_demand rest demand))
rises_at_first first demand rest true same is is_same rises = (lt_from demand.0 first.0 is, rises)
rises_at_first first demand rest false true is is_same rises = rises
rises_at_first first demand rest false false is is_same rises = RisesFrom-with_demand first.0 rest demand (above_from demand.0 first.0 is is_same) rises

Rises-with_demand : (list : List (ℕ × Mode)) (demand : ℕ × Mode) → Rises (locks_of list) → Rises (locks_of (with_demand list demand))
Rises-with_demand [] demand rises = tt
Rises-with_demand (first ∷ rest) demand rises = rises_at_first first demand rest (nat_lt demand.0 first.0) (demand.0 == first.0) refl refl rises

Rises-all : (list demands : List (ℕ × Mode)) → Rises (locks_of list) → Rises (locks_of (with_demands list demands))
Rises-all list [] rises = rises
Rises-all list (demand ∷ demands) rises = Rises-all (with_demand list demand) demands (Rises-with_demand list demand rises)

-- so those of a footprint rise
pub Rises-gathered : (demands : List (ℕ × Mode)) → Rises (locks_of (gathered demands))
Rises-gathered demands = Rises-all [] demands tt
