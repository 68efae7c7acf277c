-- A part that is made anew follows a core: what it takes in, what is marked, and the choices that are fired.
use Rattle.std.proofs.Common.{◌≡◌, ℕ, ◌+◌, ◌<◌, ◌≤◌, ◌==◌, List, [], ◌∷◌, ◌++◌, Bool, true, false, ◌&&◌, ◌||◌, Option, Some, None, IsSome, is_some, length, take, zero, suc, slice_get, nat_lt, refl, ap, sym, subst, ◌∙◌, arith}
use Rattle.std.specs.List.{AllByRecursion, list_any}
use Rattle.std.specs.Option.{option_map_or, option_or}
use Rattle.std.proofs.lemmas.Bool.{eqb-true}
use Rattle.std.proofs.lemmas.Bool.Decides.{Decides-eqb, nat_tests}
use Rattle.std.proofs.lemmas.List.{take_more}
use Rattle.std.proofs.lemmas.Option.{get_or_from_slice_get, slice_get_within}
use Rattle.rule_base.specs.declared.base.Base.{Base}
use Rattle.rule_base.specs.declared.base.Refraction.{Refraction}
use Rattle.rule_base.specs.declared.base.Refraction.TheVariants.{Once, Renewed}
use Rattle.rule_base.specs.declared.element.Element.{Element}
use Rattle.rule_base.specs.declared.instantiation.Choice.{Choice}
use Rattle.rule_base.specs.declared.program.Program.{Program}
use Rattle.rule_base.specs.Base.{FitsRule, IsLawfulBase, StillMatch, WasGiven}
use Rattle.rule_base.specs.Chains.{only_if}
use Rattle.rule_base.specs.Memory.{Memory, Rises, element_at, tags_of}
use Rattle.rule_base.specs.Run.{run}
use Rattle.rule_base.specs.Sound.{IsSound, sizes_of}
use Rattle.rule_base.specs.State.{IsState, State, choices_of, has_fired, same_choice, start}
use Rattle.rule_base.specs.Step.{is_listed, matches, memory_after, step, still_fired}
use Rattle.rule_base.proofs.AmongLemmas.{IsFound-find}
use Rattle.rule_base.proofs.BaseLemmas.{IsState-start}
use Rattle.rule_base.proofs.EachLemmas.{Each-append, Each-filter, Each-find, Each-weaker}
use Rattle.rule_base.proofs.MachineLemmas.{IsKeepingStep-sound}
use Rattle.rule_base.proofs.MemoryLemmas.{Rises-from_above}
use Rattle.rule_base.proofs.RunLemmas.{StillMatch-run, matches_at_step}
use Rattle.rule_base.proofs.StepLemmas.{IsStep-from_step, run-by_steps}
use Rattle.rule_base.proofs.StillFiredLemmas.{is_listed-matches}
use Rattle.refraction_index.specs.Beside.{AreThere}
use Rattle.refraction_index.specs.Firings.{Index, Tells}
use Rattle.refraction_index.proofs.BesideLemmas.{AreThere-matches}
use Rattle.refraction_index.proofs.MemberLemmas.{Each-any}
use Rattle.match_network.specs.Full.{memory_of}
use Rattle.match_network.specs.Negated.{whole_rows}
use Rattle.match_network.specs.Network.{Network}
use Rattle.match_network.specs.Rules.{AreCompiled, RuleRows}
use Rattle.match_network.specs.Told.{AllAreTold}
use Rattle.match_network.proofs.TagLemmas.{tags_apart}
use Rattle.conflict_parts.specs.Choices.{LivingRowsMatch, choice_at}
use Rattle.conflict_parts.specs.Part.{IsLivingRow, Part, full_rows, is_free_row}
use Rattle.conflict_parts.specs.Queue.{same_row}
use Rattle.conflict_parts.specs.Standings.{is_marked}
use Rattle.firing_core.specs.CoreState.{CoreState}
use Rattle.firing_core.specs.Lawful.{IsLawful}
use Rattle.firing_core.proofs.EventLemmas.{IsState-lawful}
use Rattle.firing_workers.specs.Feeding.{AreMarked, HasTakenIn, bare, has_place, unfired}
use Rattle.firing_workers.specs.Following.{Follows, stays_fired, with_arrived, with_memory}

-- whoever follows a state does so where its next tag is a later one
abbrev AllGiven : ℕ → List Choice → Type 0
AllGiven next choices = AllByRecursion (λ (c : Choice). AllByRecursion (λ tag. tag < next) c.tags) choices

AllGiven-later : (next later : ℕ) (choices : List Choice) → next ≤ later → AllGiven next choices → AllGiven later choices
AllGiven-later next later choices le given =
    Each-weaker (λ (c : Choice). AllByRecursion (λ tag. tag < next) c.tags) (λ (c : Choice). AllByRecursion (λ tag. tag < later) c.tags)
    (λ c each. Each-weaker (λ tag. tag < next) (λ tag. tag < later) (λ tag lt. omega (arith, lt, le)) c.tags each) choices given

pub AllBelow-later : (next later : ℕ) (elements : Memory) → next ≤ later → AllByRecursion (λ (e : Element). e.tag < next) elements → AllByRecursion (λ (e : Element). e.tag < later) elements
AllBelow-later next later elements le below = Each-weaker (λ (e : Element). e.tag < next) (λ (e : Element). e.tag < later) (λ e lt. omega (arith, lt, le)) elements below

pub follows_later : (program : Program) (s : State) (part : Part) (next : ℕ) → s.next ≤ next → Follows program s part → Follows program (record s { next = next }) part
follows_later program s part next le follows = record {
  of = follows.of;
  refraction = follows.refraction;
  memory = follows.memory;
  came = AllBelow-later s.next next part.network.arrivals.came le follows.came;
  fired = AllGiven-later s.next next s.fired le follows.fired;
  marks = follows.marks;
}

-- a part to which nothing came, and without marks, follows a bare state
pub follows_bare : (program : Program) (s : State) (part : Part) → AreCompiled program.rules part.network.rules → AllAreTold part.network → part.refraction ≡ s.refraction →
    part.network.arrivals.came ≡ [] → part.network.arrivals.places ≡ [] → ((rule number : ℕ) → is_marked part.standings rule number ≡ false) → Follows program (bare s) part
follows_bare program s part compiled told refraction came places unmarked = record {
  of = record {
    compiled = compiled;
    told = told;
    rising = subst (λ (es : Memory). Rises (tags_of es)) (sym came) tt;
    below = subst (λ (ps : List ℕ). AllByRecursion (λ place. place < length part.network.arrivals.came) ps) (sym places) tt;
  };
  refraction = refraction;
  memory = ap (λ (ps : List ℕ). memory_of (record { came = part.network.arrivals.came; places = ps })) places;
  came = subst (λ (es : Memory). AllByRecursion (λ (e : Element). e.tag < 0) es) (sym came) tt;
  fired = tt;
  marks = λ rule number row lives. unmarked rule number;
}

-- it takes in one element after another
last_below : (next : ℕ) (elements : Memory) (e : Element) → AllByRecursion (λ (x : Element). x.tag < next) (elements ++ e ∷ []) → e.tag < next
last_below next [] e below = below.0
last_below next (x ∷ elements) e below = last_below next elements e below.1

pub taken_one : (elements : Memory) (e : Element) (old part new : Part) → HasTakenIn elements old part → AllByRecursion (λ (x : Element). x.tag < e.tag) elements →
    AllByRecursion (λ (x : Element). x.tag < e.tag + 1) new.network.arrivals.came →
    ((program : Program) (s : State) → Follows program s part → s.next ≤ e.tag → Follows program (with_arrived s e) new) →
    HasTakenIn (elements ++ e ∷ []) old new
taken_one elements e old part new taken before came follows = record {
  came = λ next below. AllBelow-later (e.tag + 1) next new.network.arrivals.came (omega (arith, last_below next elements e below)) came;
  follows = λ program s next below was.
      follows_later program (with_arrived (with_memory (bare s) elements e.tag) e) new next (omega (arith, last_below next elements e below))
      (follows program (with_memory (bare s) elements e.tag) (taken.follows program s e.tag before was) (omega arith));
}

-- the elements before one of rising tags
pub before_below : (elements : Memory) (place : ℕ) (e : Element) → Rises (tags_of elements) → slice_get elements place ≡ Some e → AllByRecursion (λ (x : Element). x.tag < e.tag) (take place elements)
before_below [] zero e rises at = tt
before_below [] (suc place) e rises at = tt
before_below (x ∷ elements) zero e rises at = tt
before_below (x ∷ elements) (suc place) e rises at =
    let there : slice_get (x ∷ elements) (0 + suc place) ≡ Some e = ap (slice_get (x ∷ elements)) (let same : 0 + suc place ≡ suc place = omega arith in same) ∙ at in
    (omega (arith, tags_apart (x ∷ elements) 0 (suc place) x e rises refl there), before_below elements place e (Rises-from_above x.tag (tags_of elements) rises) at)

pub take_one : (elements : Memory) (place : ℕ) (e : Element) → slice_get elements place ≡ Some e → take (place + 1) elements ≡ take place elements ++ e ∷ []
take_one elements place e at =
    take_more elements place e (slice_get_within elements place e at) ∙ ap (λ (x : Element). take place elements ++ x ∷ []) (get_or_from_slice_get elements place e e at)

-- so one that has taken in a core's memory follows the core's state, but for what is fired
pub follows_unfired : (k : CoreState) (elements : Memory) (old new : Part) → IsLawful k → elements ≡ k.state.memory → AreCompiled k.program.rules old.network.rules → AllAreTold old.network → old.refraction ≡ k.state.refraction →
    old.network.arrivals.came ≡ [] → old.network.arrivals.places ≡ [] → ((rule number : ℕ) → is_marked old.standings rule number ≡ false) → HasTakenIn elements old new → Follows k.program (unfired k.state) new
follows_unfired k elements old new lawful is compiled told refraction came places unmarked taken =
    let s = k.state in
    let below : AllByRecursion (λ (e : Element). e.tag < s.next) elements = subst (λ (memory : Memory). AllByRecursion (λ (e : Element). e.tag < s.next) memory) (sym is) (IsState-lawful k lawful).below in
    subst (λ (memory : Memory). Follows k.program (with_memory (bare s) memory s.next) new) is
    (taken.follows k.program s s.next below (follows_bare k.program s old compiled told refraction came places unmarked))

pub rises_lawful : (k : CoreState) (elements : Memory) → IsLawful k → elements ≡ k.state.memory → Rises (tags_of elements)
rises_lawful k elements lawful is = subst (λ (memory : Memory). Rises (tags_of memory)) (sym is) (IsState-lawful k lawful).elements.rising

-- among other rows, where no living one makes a difference
pub marked_among : (fired : Choice → Bool) (among others : ℕ → ℕ → Bool) (old new : Part) →
    ((rule number : ℕ) (row : List ℕ) → IsLivingRow old.network rule number row → (among rule number && fired (choice_at old.network rule row)) ≡ (others rule number && fired (choice_at old.network rule row))) →
    AreMarked fired among old new → AreMarked fired others old new
marked_among fired among others old new same marked = record {
  network = marked.network;
  refraction = marked.refraction;
  marks = λ rule number row lives. marked.marks rule number row lives ∙ ap (λ b. is_marked old.standings rule number || b) (same rule number row lives);
}

-- more rows after others
or_and : (a b c f : Bool) → ((a || (b && f)) || (c && f)) ≡ (a || ((b || c) && f))
or_and true b c f = refl
or_and false true c true = refl
or_and false true true false = refl
or_and false true false false = refl
or_and false false c f = refl

pub marked_more : (fired : Choice → Bool) (some more : ℕ → ℕ → Bool) (old part new : Part) → AreMarked fired some old part → AreMarked fired more part new → AreMarked fired (λ rule number. some rule number || more rule number) old new
marked_more fired some more old part new first then = record {
  network = then.network ∙ first.network;
  refraction = then.refraction ∙ first.refraction;
  marks = λ rule number row lives.
      let fires = fired (choice_at old.network rule row) in
      let later : is_marked new.standings rule number ≡ (is_marked part.standings rule number || (more rule number && fires)) =
      subst (λ n. is_marked new.standings rule number ≡ (is_marked part.standings rule number || (more rule number && fired (choice_at n rule row)))) first.network
      (then.marks rule number row (subst (λ n. IsLivingRow n rule number row) (sym first.network) lives)) in
      later ∙ ap (λ b. b || (more rule number && fires)) (first.marks rule number row lives)
      ∙ or_and (is_marked old.standings rule number) (some rule number) (more rule number) fires;
}

-- the tags of what is fired were given
still_given : (next : ℕ) (r : Refraction) (program : Program) (memory : Memory) (choices : List Choice) → AllGiven next choices → AllGiven next (still_fired r program memory choices)
still_given next Once program memory choices given = given
still_given next Renewed program memory choices given = Each-filter (λ (c : Choice). AllByRecursion (λ tag. tag < next) c.tags) (is_listed program memory) choices given

found_below : (next : ℕ) (memory : Memory) (tag : ℕ) (found : Option Element) → AllByRecursion (λ (e : Element). e.tag < next) memory → element_at memory tag ≡ found → IsSome found → tag < next
found_below next memory tag None below at some = absurd (let wrong : ⊥ = cc in wrong)
found_below next memory tag (Some e) below at some =
    let found = IsFound-find (λ (x : Element). x.tag == tag) memory e at in
    subst (λ t. t < next) ((Decides-eqb e.tag tag).0 found.passes) (Each-find (λ (x : Element). x.tag < next) (λ (x : Element). x.tag == tag) memory e below at)

there_below : (next : ℕ) (memory : Memory) (tags : List ℕ) → AllByRecursion (λ (e : Element). e.tag < next) memory → AreThere memory tags → AllByRecursion (λ tag. tag < next) tags
there_below next memory tags below there =
    Each-weaker (λ tag. IsSome (element_at memory tag)) (λ tag. tag < next) (λ tag some. found_below next memory tag (element_at memory tag) below refl some) tags there

record IsGiven (program : Program) (s : State) : Type 0 where
  state : IsState (sizes_of program.classes) s
  fired : AllGiven s.next s.fired

given_step : (program : Program) (s : State) (c : Choice) (after : State) → IsSound program → IsGiven program s → step program s c ≡ Some after → IsGiven program after
given_step program s c after sound given steps =
    let made = IsStep-from_step program s c after steps in
    let keeps = IsKeepingStep-sound program s c after sound given.state steps in
    let later : s.next ≤ after.next = omega (arith, ap (λ (t : State). t.next) made.commits) in
    let of_choice = there_below s.next s.memory c.tags given.state.below (AreThere-matches program s.memory c given.state.elements.rising (matches_at_step program s c after steps)) in
    let all = Each-append (λ (d : Choice). AllByRecursion (λ tag. tag < s.next) d.tags) s.fired (c ∷ []) given.fired (of_choice, tt) in
    let here : AllGiven s.next after.fired =
    subst (λ (cs : List Choice). AllGiven s.next cs) (sym (ap (λ (t : State). t.fired) made.commits)) (still_given s.next s.refraction program (memory_after s made.done) (s.fired ++ c ∷ []) all) in
    record { state = keeps.state; fired = AllGiven-later s.next after.next after.fired later here }

given_run : (program : Program) → IsSound program → (s : State) (choices : List Choice) (after : State) → run program s choices ≡ Some after → IsGiven program s → IsGiven program after
given_run program sound =
    run-by_steps program (λ s choices after. IsGiven program s → IsGiven program after) (λ s given. given) (λ s t after c choices steps rest given. rest (given_step program s c t sound given steps))

given_start : (program : Program) (base : Base) → IsLawfulBase program base → IsGiven program (start base)
given_start program base lawful = record {
  state = IsState-start program base lawful;
  fired = Each-weaker (FitsRule program base.next) (λ (c : Choice). AllByRecursion (λ tag. tag < base.next) c.tags) (λ c fits. Each-weaker (WasGiven base.next) (λ tag. tag < base.next) (λ tag was. was.1) c.tags fits.given) base.fired lawful.fitting;
}

fired_given : (k : CoreState) → IsLawful k → AllGiven k.state.next k.state.fired
fired_given k lawful = (given_run k.program lawful.sound (start k.base) (choices_of k.state.entries) k.state lawful.ran (given_start k.program k.base lawful.began)).fired

-- under `Renewed` a living row whose choice is fired is free
stays : (r : Refraction) (program : Program) (s : State) (c : Choice) (free : Bool) → StillMatch r program s.memory s.fired → Rises (tags_of s.memory) → matches program s.memory c ≡ free → has_fired s c ≡ true → stays_fired r free ≡ true
stays Once program s c free still rises is fired = refl
stays Renewed program s c free still rises is fired =
    sym is ∙ sym (is_listed-matches program s.memory c rises) ∙ Each-any (λ (d : Choice). is_listed program s.memory d ≡ true) c s.fired still fired

and_same : (a b : Bool) → (a ≡ true → b ≡ true) → a ≡ (a && b)
and_same true b holds = sym (holds refl)
and_same false b holds = refl

-- so a part that followed without marks does so with them
follows_standings : (k : CoreState) (old new : Part) (fired : List Choice) → LivingRowsMatch → IsLawful k → Follows k.program (unfired k.state) old → ((c : Choice) → list_any (same_choice c) fired ≡ has_fired k.state c) →
    AreMarked (λ (c : Choice). list_any (same_choice c) fired) (λ rule number. true) old new → Follows k.program k.state (record old { standings = new.standings })
follows_standings k old new fired match lawful follows are marked =
    let s = k.state in
    let still = StillMatch-run k.program (start k.base) (choices_of s.entries) s lawful.ran lawful.began.matching in
    let rises = (IsState-lawful k lawful).elements.rising in
    record {
      of = follows.of;
      refraction = follows.refraction;
      memory = follows.memory;
      came = follows.came;
      fired = fired_given k lawful;
      marks = λ rule number row lives.
          let c = choice_at old.network rule row in
          let free = is_free_row old.network rule row in
          let is : matches k.program s.memory c ≡ free = subst (λ (memory : Memory). matches k.program memory c ≡ free) follows.memory (match k.program old.network rule number row follows.of lives) in
          marked.marks rule number row lives ∙ ap (λ b. b || list_any (same_choice c) fired) (follows.marks rule number row lives)
          ∙ are c ∙ and_same (has_fired s c) (stays_fired s.refraction free) (stays s.refraction k.program s c free still rises is);
    }

part_same : (old new : Part) → new.network ≡ old.network → new.refraction ≡ old.refraction → ◌≡◌ {A = Part} (record old { standings = new.standings }) new
part_same old new network refraction = λ i. record { network = sym network i; standings = new.standings; refraction = sym refraction i }

pub follows_marked : (k : CoreState) (old new : Part) (fired : List Choice) → LivingRowsMatch → IsLawful k → Follows k.program (unfired k.state) old → ((c : Choice) → list_any (same_choice c) fired ≡ has_fired k.state c) →
    AreMarked (λ (c : Choice). list_any (same_choice c) fired) (λ rule number. true) old new → Follows k.program k.state new
follows_marked k old new fired match lawful follows are marked =
    subst (λ (part : Part). Follows k.program k.state part) (part_same old new marked.network marked.refraction) (follows_standings k old new fired match lawful follows are marked)

-- the rows of a rule, and the rules, one after another
pub next_row : (rule row other number : ℕ) → (((other == rule) && nat_lt number row) || ((rule == other) && (row == number))) ≡ ((other == rule) && nat_lt number (row + 1))
next_row rule row other number = grind (arith, nat_tests)

pub next_rule : (rule other : ℕ) → (nat_lt other rule || (other == rule)) ≡ nat_lt other (rule + 1)
next_rule rule other = grind (arith, nat_tests)

-- another row of a rule is marked
pub rows_more : (index was : Index) (rule row : ℕ) (old part new : Part) → was ≡ index → AreMarked (has_place index) (λ other number. (other == rule) && nat_lt number row) old part →
    AreMarked (has_place was) (λ other number. same_row other number (record { rule = rule; row = row })) part new → AreMarked (has_place index) (λ other number. (other == rule) && nat_lt number (row + 1)) old new
rows_more index was rule row old part new is first then =
    let some : ℕ → ℕ → Bool = λ other number. (other == rule) && nat_lt number row in
    let one : ℕ → ℕ → Bool = λ other number. same_row other number (record { rule = rule; row = row }) in
    let last : AreMarked (has_place index) one part new = subst (λ i. AreMarked (has_place i) one part new) is then in
    marked_among (has_place index) (λ other number. some other number || one other number) (λ other number. (other == rule) && nat_lt number (row + 1)) old new
    (λ other number living lives. ap (λ b. b && has_place index (choice_at old.network other living)) (next_row rule row other number))
    (marked_more (has_place index) some one old part new first last)

lt_true : (a b : ℕ) → a < b → nat_lt a b ≡ true
lt_true a b lt = grind (arith, nat_tests, lt)

-- with the last of them all are
within_rows : (network : Network) (rule row other number : ℕ) (living : List ℕ) (kept : RuleRows) → slice_get network.rules rule ≡ Some kept → length (whole_rows kept) ≤ row → IsLivingRow network other number living →
    ((other == rule) && nat_lt number row) ≡ (other == rule)
within_rows network rule row other number living kept at all lives = below_all (other == rule) (nat_lt number row) (λ same.
    let lt : number < length (full_rows network.rules other) = slice_get_within (full_rows network.rules other) number living lives.is in
    let there : full_rows network.rules other ≡ whole_rows kept = ap (λ r. full_rows network.rules r) (eqb-true other rule same) ∙ ap (λ found. option_map_or whole_rows found []) at in
    lt_true number row (omega (arith, lt, ap length there, all)))
  where
    below_all : (same b : Bool) → (same ≡ true → b ≡ true) → (same && b) ≡ same
    below_all true b is = is refl
    below_all false b is = refl

pub rows_all : (index : Index) (rule row : ℕ) (old new : Part) (kept : RuleRows) → slice_get old.network.rules rule ≡ Some kept → length (whole_rows kept) ≤ row →
    AreMarked (has_place index) (λ other number. (other == rule) && nat_lt number row) old new → AreMarked (has_place index) (λ other number. other == rule) old new
rows_all index rule row old new kept at all marked =
    marked_among (has_place index) (λ other number. (other == rule) && nat_lt number row) (λ other number. other == rule) old new
    (λ other number living lives. ap (λ b. b && has_place index (choice_at old.network other living)) (within_rows old.network rule row other number living kept at all lives)) marked

-- another rule's rows are marked
pub rules_more : (index was : Index) (rule : ℕ) (old part new : Part) → was ≡ index → AreMarked (has_place index) (λ other number. nat_lt other rule) old part →
    AreMarked (has_place was) (λ other number. other == rule) part new → AreMarked (has_place index) (λ other number. nat_lt other (rule + 1)) old new
rules_more index was rule old part new is first then =
    let last : AreMarked (has_place index) (λ other number. other == rule) part new = subst (λ i. AreMarked (has_place i) (λ other number. other == rule) part new) is then in
    marked_among (has_place index) (λ other number. nat_lt other rule || (other == rule)) (λ other number. nat_lt other (rule + 1)) old new
    (λ other number living lives. ap (λ b. b && has_place index (choice_at old.network other living)) (next_rule rule other))
    (marked_more (has_place index) (λ other number. nat_lt other rule) (λ other number. other == rule) old part new first last)

pub rules_all : (index : Index) (rule : ℕ) (old new : Part) → length old.network.rules ≤ rule → AreMarked (has_place index) (λ other number. nat_lt other rule) old new → AreMarked (has_place index) (λ other number. true) old new
rules_all index rule old new all marked =
    marked_among (has_place index) (λ other number. nat_lt other rule) (λ other number. true) old new
    (λ other number living lives. ap (λ b. b && has_place index (choice_at old.network other living)) (within_rules other number living lives (slice_get old.network.rules other) refl)) marked
  where
    within_rules : (other number : ℕ) (living : List ℕ) → IsLivingRow old.network other number living → (found : Option RuleRows) → slice_get old.network.rules other ≡ found → nat_lt other rule ≡ true
    within_rules other number living lives None at = absurd (let none : None ≡ Some living = ap (λ found. slice_get (option_map_or whole_rows found []) number) (sym at) ∙ lives.is in let wrong : ⊥ = cc in wrong)
    within_rules other number living lives (Some kept) at = let lt = slice_get_within old.network.rules other kept at in lt_true other rule (omega (arith, lt, all))

-- an index of fired choices has those
pub index_fired : (index : Index) (fired : List Choice) (old new : Part) → Tells fired [] index → AreMarked (has_place index) (λ rule number. true) old new →
    AreMarked (λ (c : Choice). list_any (same_choice c) fired) (λ rule number. true) old new
index_fired index fired old new tells marked = record {
  network = marked.network;
  refraction = marked.refraction;
  marks = λ rule number row lives.
      marked.marks rule number row lives
      ∙ ap (λ b. is_marked old.standings rule number || b) (ap (λ (found : Option ℕ). is_some found) (tells (choice_at old.network rule row)) ∙ is_there (list_any (same_choice (choice_at old.network rule row)) fired));
}
  where
    is_there : (b : Bool) → is_some {T = ℕ} (option_or None (only_if b 0)) ≡ b
    is_there true = refl
    is_there false = refl
