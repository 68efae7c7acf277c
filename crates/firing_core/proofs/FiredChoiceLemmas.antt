-- Which choices are fired: those that had fired at some time and can be still, told in order.
use Rattle.std.proofs.Common.{◌≡◌, ℕ, ◌+◌, List, [], ◌∷◌, Bool, true, false, cond, ◌&&◌, ◌||◌, ◌==◌, Option, Some, None, Ok, Err, is_none, is_ok, is_some, slice_get, Result, refl, sym, ◌∙◌, ap, subst, true≢false}
use Rattle.std.specs.Cmp.{IsTotalOrder, both_tied, nat_cmp_total, on_total, then_total, unsigned_ties}
use Rattle.std.specs.List.{AllByRecursion, IsDistinct, dedup, dedup_from, filter, list_any}
use Rattle.std.specs.Option.{option_and_then, option_map_or, option_or}
use Rattle.std.specs.Ordering.{eq_by_cmp, nat_cmp}
use Rattle.std.specs.Cmp.Lexicographic.{slice_cmp, texts_ties}
use Rattle.std.specs.Result.{result_err}
use Rattle.std.proofs.lemmas.Cmp.{nat_list_cmp_total}
use Rattle.std.proofs.lemmas.List.Folds.{list_any-append}
use Rattle.std.proofs.lemmas.Map.Keys.{IsDistinct-from_sorted}
use Rattle.rule_base.specs.declared.base.Base.{Base}
use Rattle.rule_base.specs.declared.base.Refraction.{Refraction}
use Rattle.rule_base.specs.declared.base.Refraction.TheVariants.{Once, Renewed}
use Rattle.rule_base.specs.declared.entry.Entry.{Entry}
use Rattle.rule_base.specs.declared.instantiation.Choice.{Choice}
use Rattle.rule_base.specs.declared.program.Program.{Program}
use Rattle.rule_base.specs.declared.program.Rule.{Rule}
use Rattle.rule_base.specs.Base.{FitsRule, IsLawfulBase, StillMatch}
use Rattle.rule_base.specs.Chains.{only_if}
use Rattle.rule_base.specs.Match.{match_of}
use Rattle.rule_base.specs.Memory.{Memory, Rises, tags_of}
use Rattle.rule_base.specs.Run.{run}
use Rattle.rule_base.specs.Sound.{IsSound}
use Rattle.rule_base.specs.State.{State, choices_of, has_fired, same_choice, start}
use Rattle.rule_base.specs.Step.{is_listed, matches}
use Rattle.rule_base.proofs.BaseLemmas.{IsLawfulBase-run}
use Rattle.rule_base.proofs.ChoiceLemmas.{any_filter, same_choice-equal, same_choice-itself}
use Rattle.rule_base.proofs.EachLemmas.{Each-filtered, Each-weaker}
use Rattle.rule_base.proofs.RunLemmas.{FiresOnce-run, StillMatch-run, refraction-run}
use Rattle.rule_base.proofs.StillFiredLemmas.{is_listed-matches}
use Rattle.refraction_index.specs.Firings.{fired_at, last_from}
use Rattle.refraction_index.specs.StillFired.{is_still_fired}
use Rattle.refraction_index.proofs.MemberLemmas.{Each-any}
use Rattle.refraction_index.proofs.StillFiredLemmas.{last_firing_tells}
use Rattle.firing_core.specs.FiredChoices.{AreFired, AreInOrder, choice_order, ever_fired, is_fired_now, may_be_fired}
use Rattle.firing_core.specs.CoreLaws.{FiredMakeBases}
use Rattle.firing_core.specs.Refusals.{failing_condition}
use Rattle.firing_core.specs.Unfired.{is_fired_by}
use Rattle.rule_base.specs.Numbers.{same_numbers}

-- what has a last firing is what had fired at some time
either_is : (o : Option ℕ) (b : Bool) (n : ℕ) → is_some (option_or o (only_if b n)) ≡ (b || is_some o)
either_is None true n = refl
either_is None false n = refl
either_is (Some m) true n = refl
either_is (Some m) false n = refl

is_some-last_from : (count : ℕ) (entries : List Entry) (c : Choice) → is_some (last_from count entries c) ≡ list_any (same_choice c) (choices_of entries)
is_some-last_from count [] c = refl
is_some-last_from count (entry ∷ entries) c =
    either_is (last_from (count + 1) entries c) (same_choice c entry.choice) (count + 1)
    ∙ ap (λ b. same_choice c entry.choice || b) (is_some-last_from (count + 1) entries c)

pub is_some-fired_at : (base : Base) (entries : List Entry) (c : Choice) → is_some (fired_at base.fired entries c) ≡ list_any (same_choice c) (ever_fired base entries)
is_some-fired_at base entries c =
    either_is (last_from 0 entries c) (list_any (same_choice c) base.fired) 0
    ∙ ap (λ b. list_any (same_choice c) base.fired || b) (is_some-last_from 0 entries c)
    ∙ sym (list_any-append (same_choice c) base.fired (choices_of entries))

-- under `Once` each of those is fired
told_once : (p : ℕ → Bool) (o : Option ℕ) → ((n : ℕ) → p n ≡ true) → option_map_or p o false ≡ is_some o
told_once p None all = refl
told_once p (Some n) all = all n

pub is_fired_by-once : (program : Program) (base : Base) (memory : Memory) (entries : List Entry) (c : Choice) → base.refraction ≡ Once → is_fired_by program base memory entries c ≡ is_some (fired_at base.fired entries c)
is_fired_by-once program base memory entries c once =
    told_once (is_still_fired base.refraction program memory entries c) (fired_at base.fired entries c) (λ n. ap (λ r. is_still_fired r program memory entries c n) once)

-- and under both only those are
some_told : (p : ℕ → Bool) (o : Option ℕ) → option_map_or p o false ≡ true → is_some o ≡ true
some_told p None told = absurd (true≢false (sym told))
some_told p (Some n) told = refl

second_holds : (a b : Bool) → (a && b) ≡ true → b ≡ true
second_holds true b both = both
second_holds false b both = absurd (true≢false (sym both))

first_holds : (a b : Bool) → (a && b) ≡ true → a ≡ true
first_holds true b both = refl
first_holds false b both = both

pub had_fired : (program : Program) (base : Base) (memory : Memory) (entries : List Entry) (c : Choice) → is_fired_now program base memory entries c ≡ true → list_any (same_choice c) (ever_fired base entries) ≡ true
had_fired program base memory entries c fired =
    sym (is_some-fired_at base entries c)
    ∙ some_told (is_still_fired base.refraction program memory entries c) (fired_at base.fired entries c) (second_holds (may_be_fired base.refraction program memory c) (is_fired_by program base memory entries c) fired)

-- a choice matches where there is its rule and none of the condition elements fails
none_fails : {X : Type 0} (r : Result X ℕ) → is_none (result_err r) ≡ is_ok r
none_fails (Ok x) = refl
none_fails (Err n) = refl

fails_none : (memory : Memory) (c : Choice) (o : Option Rule) → is_some o ≡ true
    → is_none (option_and_then (λ (rule : Rule). result_err (match_of rule c.tags memory)) o) ≡ option_map_or (λ (rule : Rule). is_ok (match_of rule c.tags memory)) o false
fails_none memory c None there = absurd (true≢false (sym there))
fails_none memory c (Some rule) there = none_fails (match_of rule c.tags memory)

pub matches-failing_condition : (program : Program) (memory : Memory) (c : Choice) → is_some (slice_get program.rules c.rule) ≡ true → is_none (failing_condition program memory c) ≡ matches program memory c
matches-failing_condition program memory c there = fails_none memory c (slice_get program.rules c.rule) there

pub matches-no_rule : (program : Program) (memory : Memory) (c : Choice) → slice_get program.rules c.rule ≡ None → matches program memory c ≡ false
matches-no_rule program memory c none = ap (λ (o : Option Rule). option_map_or (λ (rule : Rule). is_ok (match_of rule c.tags memory)) o false) none

-- of some choices, those that pass a test, where each that passes it is among them
both_ways : (a b : Bool) → (a ≡ true → b ≡ true) → (b ≡ true → a ≡ true) → a ≡ b
both_ways true b there back = sym (there refl)
both_ways false true there back = back refl
both_ways false false there back = refl

pub any_passing : (c : Choice) (p : Choice → Bool) (choices : List Choice) → (p c ≡ true → list_any (same_choice c) choices ≡ true) → list_any (same_choice c) (filter p choices) ≡ p c
any_passing c p choices among =
    both_ways (list_any (same_choice c) (filter p choices)) (p c)
    (Each-any (λ (d : Choice). p d ≡ true) c (filter p choices) (Each-filtered p choices))
    (λ passes. any_filter c p choices (among passes) passes)

-- the order
pub choice_order_total : IsTotalOrder choice_order
choice_order_total = then_total (on_total (λ (c : Choice). c.rule) nat_cmp_total) (on_total (λ (c : Choice). c.tags) nat_list_cmp_total)

-- choices that it doesn't tell apart are the same
pub same_choice-ties : (c d : Choice) → same_choice c d ≡ eq_by_cmp choice_order c d
same_choice-ties c d = both_tied (c.rule == d.rule) (same_numbers c.tags d.tags) (nat_cmp c.rule d.rule) (slice_cmp nat_cmp c.tags d.tags) (unsigned_ties c.rule d.rule) (texts_ties c.tags d.tags)

-- each once
any_once : (a b rest : Bool) → a ≡ b → (a || rest) ≡ (a || (b || rest))
any_once true b rest same = refl
any_once false true rest same = absurd (true≢false (sym same))
any_once false false rest same = refl

any_dedup_next : (c kept d : Choice) (b : Bool) (xs : List Choice) → same_choice d kept ≡ b
    → list_any (same_choice c) (dedup_from same_choice kept xs) ≡ list_any (same_choice c) (kept ∷ xs)
    → list_any (same_choice c) (dedup_from same_choice d xs) ≡ list_any (same_choice c) (d ∷ xs)
    → list_any (same_choice c) (cond b (dedup_from same_choice kept xs) (kept ∷ dedup_from same_choice d xs)) ≡ list_any (same_choice c) (kept ∷ d ∷ xs)
any_dedup_next c kept d true xs same of_kept of_d =
    of_kept ∙ any_once (same_choice c kept) (same_choice c d) (list_any (same_choice c) xs) (ap (same_choice c) (sym (same_choice-equal d kept same)))
any_dedup_next c kept d false xs same of_kept of_d = ap (λ b. same_choice c kept || b) of_d

any_dedup_from : (c kept : Choice) (xs : List Choice) → list_any (same_choice c) (dedup_from same_choice kept xs) ≡ list_any (same_choice c) (kept ∷ xs)
any_dedup_from c kept [] = refl
any_dedup_from c kept (d ∷ xs) = any_dedup_next c kept d (same_choice d kept) xs refl (any_dedup_from c kept xs) (any_dedup_from c d xs)

pub any_dedup : (c : Choice) (xs : List Choice) → list_any (same_choice c) (dedup same_choice xs) ≡ list_any (same_choice c) xs
any_dedup c [] = refl
any_dedup c (x ∷ xs) = any_dedup_from c x xs

-- what is fired in the state that a run reaches
fired_once : (program : Program) (base : Base) (s : State) (c : Choice) → base.refraction ≡ Once → run program (start base) (choices_of s.entries) ≡ Some s → has_fired s c ≡ is_fired_by program base s.memory s.entries c
fired_once program base s c once ran =
    ap (list_any (same_choice c)) (FiresOnce-run program (start base) (choices_of s.entries) s ran once).fired
    ∙ sym (is_some-fired_at base s.entries c)
    ∙ sym (is_fired_by-once program base s.memory s.entries c once)

-- under `Renewed` what is fired matches
still_matches : (r : Refraction) (program : Program) (s : State) (c : Choice) → r ≡ Renewed → Rises (tags_of s.memory) → StillMatch r program s.memory s.fired → has_fired s c ≡ true → matches program s.memory c ≡ true
still_matches Once program s c is rises still fired = absurd (let wrong : ⊥ = cc in wrong)
still_matches Renewed program s c is rises still fired =
    sym (is_listed-matches program s.memory c rises) ∙ Each-any (λ (d : Choice). is_listed program s.memory d ≡ true) c s.fired still fired

fired_where : (fired ok by : Bool) → (fired ≡ true → ok ≡ true) → (ok ≡ true → fired ≡ by) → fired ≡ (ok && by)
fired_where fired true by there told = told refl
fired_where true false by there told = sym (there refl)
fired_where false false by there told = refl

has_fired-under : (r : Refraction) (program : Program) (base : Base) (s : State) (c : Choice) → base.refraction ≡ r → IsSound program → IsLawfulBase program base → run program (start base) (choices_of s.entries) ≡ Some s → Rises (tags_of s.memory)
    → has_fired s c ≡ (may_be_fired r program s.memory c && is_fired_by program base s.memory s.entries c)
has_fired-under Once program base s c is sound lawful ran rises = fired_once program base s c is ran
has_fired-under Renewed program base s c is sound lawful ran rises =
    fired_where (has_fired s c) (matches program s.memory c) (is_fired_by program base s.memory s.entries c)
    (still_matches s.refraction program s c (refraction-run program (start base) (choices_of s.entries) s ran ∙ is) rises (StillMatch-run program (start base) (choices_of s.entries) s ran lawful.matching))
    (last_firing_tells program base s c sound lawful ran)

pub has_fired-now : (program : Program) (base : Base) (s : State) (c : Choice) → IsSound program → IsLawfulBase program base → run program (start base) (choices_of s.entries) ≡ Some s → Rises (tags_of s.memory) → has_fired s c ≡ is_fired_now program base s.memory s.entries c
has_fired-now program base s c sound lawful ran rises = has_fired-under base.refraction program base s c refl sound lawful ran rises

-- those that are told make a lawful base
Each-itself : (choices : List Choice) → AllByRecursion (λ (c : Choice). list_any (same_choice c) choices ≡ true) choices
Each-itself [] = tt
Each-itself (c ∷ choices) =
    (ap (λ b. b || list_any (same_choice c) choices) (same_choice-itself c), Each-weaker (λ (d : Choice). list_any (same_choice d) choices ≡ true) (λ (d : Choice). list_any (same_choice d) (c ∷ choices) ≡ true) (λ d among. or_later (same_choice d c) (list_any (same_choice d) choices) among) choices (Each-itself choices))
  where
    or_later : (a b : Bool) → b ≡ true → (a || b) ≡ true
    or_later true b is = refl
    or_later false b is = is

Each-fired : (P : Choice → Type 0) (s : State) (choices : List Choice) → AreFired s choices → AllByRecursion P s.fired → AllByRecursion P choices
Each-fired P s choices are each =
    Each-weaker (λ (c : Choice). list_any (same_choice c) choices ≡ true) P (λ c among. Each-any P c s.fired each (sym (are.fired c) ∙ among)) choices (Each-itself choices)

StillMatch-fired : (r : Refraction) (program : Program) (s : State) (choices : List Choice) → AreFired s choices → StillMatch r program s.memory s.fired → StillMatch r program s.memory choices
StillMatch-fired Once program s choices are still = tt
StillMatch-fired Renewed program s choices are still = Each-fired (λ (c : Choice). is_listed program s.memory c ≡ true) s choices are still

pub IsDistinct-in_order : (choices : List Choice) → AreInOrder choices → IsDistinct same_choice choices
IsDistinct-in_order choices order = subst (λ (e : Choice → Choice → Bool). IsDistinct e choices) (λ i c d. sym (same_choice-ties c d) i) (IsDistinct-from_sorted choice_order choices order)

pub IsLawfulBase-fired : FiredMakeBases
IsLawfulBase-fired k choices lawful few are =
    let s = k.state in
    let left = IsLawfulBase-run k.program k.base (choices_of s.entries) s lawful.sound lawful.began lawful.ran few in
    record {
      memory = left.memory;
      given = left.given;
      from_one = left.from_one;
      few = left.few;
      distinct = IsDistinct-in_order choices are.order;
      fitting = Each-fired (FitsRule k.program s.next) s choices are left.fitting;
      matching = StillMatch-fired s.refraction k.program s choices are left.matching;
    }
