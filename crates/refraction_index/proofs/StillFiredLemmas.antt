-- What the last firing tells, of the state that a run reaches: whether a choice is fired still.
use Rattle.std.proofs.Common.{◌≡◌, ℕ, ◌+◌, ◌-◌, ◌<◌, ◌≤◌, List, [], ◌∷◌, ◌++◌, Bool, true, false, cond, ◌||◌, Option, Some, None, drop, length, refl, sym, ◌∙◌, ap, subst, arith, append-nil, length-append, true≢false}
use Rattle.std.specs.List.{filter_map, list_any}
use Rattle.std.specs.Option.{option_map_or}
use Rattle.std.proofs.lemmas.Grind.{flat_map-append}
use Rattle.std.proofs.lemmas.List.{drop-append-le}
use Rattle.std.proofs.lemmas.List.Folds.{list_any-append}
use Rattle.std.proofs.Math.Seq.{drop-append_seam}
use Rattle.rule_base.specs.declared.base.Base.{Base}
use Rattle.rule_base.specs.declared.base.Refraction.{Refraction}
use Rattle.rule_base.specs.declared.base.Refraction.TheVariants.{Once, Renewed}
use Rattle.rule_base.specs.declared.element.Element.{Element}
use Rattle.rule_base.specs.declared.entry.Entry.{Entry}
use Rattle.rule_base.specs.declared.instantiation.Choice.{Choice}
use Rattle.rule_base.specs.declared.program.Program.{Program}
use Rattle.rule_base.specs.Base.{IsLawfulBase, FitsRule, StillMatch, WasGiven}
use Rattle.rule_base.specs.Chains.{only_if}
use Rattle.rule_base.specs.Effect.{Effect, removed_tags}
use Rattle.rule_base.specs.Memory.{Memory, Rises, tags_of}
use Rattle.rule_base.specs.Run.{run}
use Rattle.rule_base.specs.Sound.{IsSound, sizes_of}
use Rattle.rule_base.specs.State.{IsState, State, choices_of, has_fired, same_choice, start}
use Rattle.rule_base.specs.Step.{born, committed, entry_of, is_listed, matches, memory_after, step, still_fired}
use Rattle.rule_base.proofs.AmongLemmas.{Among, Among-append_left, any_append_left, any_append_right}
use Rattle.rule_base.proofs.BaseLemmas.{IsState-start}
use Rattle.rule_base.proofs.ChoiceLemmas.{any_filtered, same_choice-equal}
use Rattle.rule_base.proofs.EachLemmas.{Each-weaker}
use Rattle.rule_base.proofs.MachineLemmas.{IsKeepingStep-sound}
use Rattle.rule_base.proofs.RunLemmas.{matches_at_step}
use Rattle.rule_base.proofs.StepLemmas.{IsStep-from_step, run-by_steps}
use Rattle.rule_base.proofs.StillFiredLemmas.{is_listed-matches}
use Rattle.rule_base.proofs.TakenLemmas.{Each-matches}
use Rattle.commit_journal.specs.Entries.{born_by, born_in}
use Rattle.refraction_index.specs.Firings.{fired_at}
use Rattle.refraction_index.specs.StillFired.{LastFiringTells, is_still_fired}
use Rattle.refraction_index.proofs.BesideLemmas.{blocks_none-nothing}
use Rattle.refraction_index.proofs.FiringLemmas.{fired_at-push}
use Rattle.refraction_index.proofs.MemberLemmas.{AllAmong-itself, Each-any}
use Rattle.refraction_index.proofs.SinceLemmas.{IsCommit, IsSince, IsSince-commit, Keeps-itself, has_fired-since}
use Rattle.commit_journal.proofs.EntryLemmas.{born_by-entry}

-- what doesn't hold, where it would make something hold that doesn't
not_so : (a b : Bool) → b ≡ false → (a ≡ true → b ≡ true) → a ≡ false
not_so false b is there = refl
not_so true b is there = absurd (true≢false (sym (there refl) ∙ is))

pub born_in-entry : (next : ℕ) (d : Choice) (done : Effect) → born_in (entry_of next d done ∷ []) ≡ born next done.changes
born_in-entry next d done = append-nil (filter_map born_by (entry_of next d done).changes) ∙ born_by-entry (removed_tags done.changes) (born next done.changes)

-- those that were born since a firing, once one more has fired, and since that one
born_in-after : (entries : List Entry) (n next : ℕ) (d : Choice) (done : Effect) → n ≤ length entries → born_in (drop (n - 1) (entries ++ entry_of next d done ∷ [])) ≡ born_in (drop (n - 1) entries) ++ born next done.changes
born_in-after entries n next d done within =
    let last = entry_of next d done ∷ [] in
    ap born_in (drop-append-le (n - 1) entries last (omega (arith, within)))
    ∙ flat_map-append (λ (e : Entry). filter_map born_by e.changes) (drop (n - 1) entries) last
    ∙ ap (λ es. born_in (drop (n - 1) entries) ++ es) (born_in-entry next d done)

born_in-now : (entries : List Entry) (next : ℕ) (d : Choice) (done : Effect) → born_in (drop (length entries + 1 - 1) (entries ++ entry_of next d done ∷ [])) ≡ born next done.changes
born_in-now entries next d done =
    let last = entry_of next d done ∷ [] in
    let same : length entries + 1 - 1 ≡ length entries = omega arith in
    ap (λ k. born_in (drop k (entries ++ last))) same
    ∙ ap born_in (drop-append_seam entries last)
    ∙ born_in-entry next d done

-- a choice whose last firing came when there were so many entries, under either refraction
abbrev FiredBy : Refraction → Program → State → Choice → ℕ → Type 0
FiredBy Once program s c n = has_fired s c ≡ true
FiredBy Renewed program s c n = IsSince program s c (born_in (drop (n - 1) s.entries))

record IsTold (r : Refraction) (program : Program) (s : State) (c : Choice) (n : ℕ) : Type 0 where
  within : n ≤ length s.entries
  by : FiredBy r program s c n

-- what the last firing tells of each choice
abbrev Told : Refraction → Program → State → Choice → Option ℕ → Type 0
Told r program s c None = has_fired s c ≡ false
Told r program s c (Some n) = IsTold r program s c n

-- one commit more, where the choice is the one that fires
any_last : (c d : Choice) (fired : List Choice) → same_choice c d ≡ true → list_any (same_choice c) (fired ++ d ∷ []) ≡ true
any_last c d fired same = any_append_right (same_choice c) fired (d ∷ []) (ap (λ b. b || false) same)

FiredBy-now : (r : Refraction) (program : Program) (s : State) (d : Choice) (done : Effect) (c : Choice) → s.refraction ≡ r → IsCommit program s d done → same_choice c d ≡ true → FiredBy r program (committed program s d done) c (length s.entries + 1)
FiredBy-now Once program s d done c is commit same = ap (λ r. list_any (same_choice c) (still_fired r program (memory_after s done) (s.fired ++ d ∷ []))) is ∙ any_last c d s.fired same
FiredBy-now Renewed program s d done c is commit same =
    let matched : matches program s.memory c ≡ true = ap (matches program s.memory) (same_choice-equal c d same) ∙ commit.matched in
    let told = IsSince-commit program s d done c s.memory [] is commit matched
    (Each-weaker (λ (e : Element). Among e s.memory) (λ (e : Element). Among e (s.memory ++ [])) (λ e there. Among-append_left e s.memory [] there) s.memory (AllAmong-itself s.memory))
    (Keeps-itself s.memory c.tags)
    (Each-matches (λ tag. tag < s.next) program s.memory c commit.state.below matched)
    (λ any. blocks_none-nothing program s.memory c)
    (λ there none. any_last c d s.fired same) in
    subst (IsSince program (committed program s d done) c) (sym (born_in-now s.entries s.next d done)) told

-- and where it is another one
any_but_last : (c d : Choice) (fired : List Choice) → same_choice c d ≡ false → list_any (same_choice c) (fired ++ d ∷ []) ≡ true → list_any (same_choice c) fired ≡ true
any_but_last c d fired differs any = left (list_any (same_choice c) fired) (same_choice c d) differs (sym (list_any-append (same_choice c) fired (d ∷ [])) ∙ any)
  where
    left : (a b : Bool) → b ≡ false → (a || (b || false)) ≡ true → a ≡ true
    left true b is any = refl
    left false true is any = absurd (true≢false is)
    left false false is any = any

FiredBy-later : (r : Refraction) (program : Program) (s : State) (d : Choice) (done : Effect) (c : Choice) (n : ℕ) → s.refraction ≡ r → IsCommit program s d done → same_choice c d ≡ false → n ≤ length s.entries → FiredBy r program s c n → FiredBy r program (committed program s d done) c n
FiredBy-later Once program s d done c n is commit differs within fired = ap (λ r. list_any (same_choice c) (still_fired r program (memory_after s done) (s.fired ++ d ∷ []))) is ∙ any_append_left (same_choice c) s.fired (d ∷ []) fired
FiredBy-later Renewed program s d done c n is commit differs within told =
    let since = born_in (drop (n - 1) s.entries) in
    let next = IsSince-commit program s d done c told.old since is commit told.matched told.from told.keeps told.given
    (λ any. told.free (any_but_last c d s.fired differs any))
    (λ there none. any_append_left (same_choice c) s.fired (d ∷ []) (told.fired there none)) in
    subst (IsSince program (committed program s d done) c) (sym (born_in-after s.entries n s.next d done within)) next

-- what had not fired, and is not the one that fires, has not
any_still : (r : Refraction) (program : Program) (memory : Memory) (fired : List Choice) (c : Choice) → list_any (same_choice c) (still_fired r program memory fired) ≡ true → list_any (same_choice c) fired ≡ true
any_still Once program memory fired c any = any
any_still Renewed program memory fired c any = any_filtered c (is_listed program memory) fired any

Told-commit : (r : Refraction) (program : Program) (s : State) (d : Choice) (done : Effect) (c : Choice) (b : Bool) (o : Option ℕ) → s.refraction ≡ r → IsCommit program s d done → same_choice c d ≡ b → Told r program s c o → Told r program (committed program s d done) c (cond b (Some (length s.entries + 1)) o)
Told-commit r program s d done c true o is commit same told = record {
  within = omega (arith, length-append s.entries (entry_of s.next d done ∷ []));
  by = FiredBy-now r program s d done c is commit same;
}
Told-commit r program s d done c false None is commit differs told =
    not_so (has_fired (committed program s d done) c) (has_fired s c) told (λ any. any_but_last c d s.fired differs (any_still s.refraction program (memory_after s done) (s.fired ++ d ∷ []) c any))
Told-commit r program s d done c false (Some n) is commit differs told = record {
  within = omega (arith, told.within, length-append s.entries (entry_of s.next d done ∷ []));
  by = FiredBy-later r program s d done c n is commit differs told.within told.by;
}

-- a state that a run from a base reaches
record IsFollowed (program : Program) (r : Refraction) (before : List Choice) (s : State) : Type 0 where
  state : IsState (sizes_of program.classes) s
  refraction' : s.refraction ≡ r
  told : (c : Choice) → Told r program s c (fired_at before s.entries c)

IsFollowed-step : (program : Program) (r : Refraction) (before : List Choice) (s : State) (d : Choice) (t : State) → IsSound program → IsFollowed program r before s → step program s d ≡ Some t → IsFollowed program r before t
IsFollowed-step program r before s d t sound followed steps =
    let made = IsStep-from_step program s d t steps in
    let keeps = IsKeepingStep-sound program s d t sound followed.state steps in
    let commit : IsCommit program s d made.done = record {
      state = followed.state;
      after = subst (IsState (sizes_of program.classes)) made.commits keeps.state;
      matched = matches_at_step program s d t steps;
    } in
    let there : IsFollowed program r before (committed program s d made.done) = record {
      state = commit.after;
      refraction' = followed.refraction';
      told = λ (c : Choice).
          subst (Told r program (committed program s d made.done) c) (sym (fired_at-push before s.entries (entry_of s.next d made.done) c))
          (Told-commit r program s d made.done c (same_choice c d) (fired_at before s.entries c) followed.refraction' commit refl (followed.told c));
    } in
    subst (IsFollowed program r before) (sym made.commits) there

IsFollowed-run : (program : Program) (r : Refraction) (before : List Choice) → IsSound program → (s : State) (choices : List Choice) (after : State) → run program s choices ≡ Some after → IsFollowed program r before s → IsFollowed program r before after
IsFollowed-run program r before sound = run-by_steps program (λ s choices after. IsFollowed program r before s → IsFollowed program r before after) (λ s followed. followed) (λ s t after c choices steps rest followed. rest (IsFollowed-step program r before s c t sound followed steps))

-- where a run begins
FiredBy-start : (r : Refraction) (program : Program) (base : Base) (c : Choice) → IsLawfulBase program base → StillMatch r program base.elements base.fired → list_any (same_choice c) base.fired ≡ true → FiredBy r program (start base) c 0
FiredBy-start Once program base c lawful matching fired = fired
FiredBy-start Renewed program base c lawful matching fired = record {
  old = base.elements;
  matched = sym (is_listed-matches program base.elements c lawful.memory.rising) ∙ Each-any (λ (x : Choice). is_listed program base.elements x ≡ true) c base.fired matching fired;
  from = Each-weaker (λ (e : Element). Among e base.elements) (λ (e : Element). Among e (base.elements ++ [])) (λ e there. Among-append_left e base.elements [] there) base.elements (AllAmong-itself base.elements);
  keeps = Keeps-itself base.elements c.tags;
  given = Each-weaker (WasGiven base.next) (λ tag. tag < base.next) (λ tag was. was.1) c.tags (Each-any (FitsRule program base.next) c base.fired lawful.fitting fired).given;
  free = λ any. blocks_none-nothing program base.elements c;
  fired = λ there none. fired;
}

Told-start : (program : Program) (base : Base) (c : Choice) (b : Bool) → IsLawfulBase program base → list_any (same_choice c) base.fired ≡ b → Told base.refraction program (start base) c (only_if b 0)
Told-start program base c false lawful is = is
Told-start program base c true lawful is = record { within = omega arith; by = FiredBy-start base.refraction program base c lawful lawful.matching is }

IsFollowed-start : (program : Program) (base : Base) → IsLawfulBase program base → IsFollowed program base.refraction base.fired (start base)
IsFollowed-start program base lawful = record {
  state = IsState-start program base lawful;
  refraction' = refl;
  told = λ (c : Choice). Told-start program base c (list_any (same_choice c) base.fired) lawful refl;
}

-- the law, of what is told
fired_by : (r : Refraction) (program : Program) (s : State) (c : Choice) (n : ℕ) → Rises (tags_of s.memory) → matches program s.memory c ≡ true → FiredBy r program s c n → has_fired s c ≡ is_still_fired r program s.memory s.entries c n
fired_by Once program s c n rises ok fired = fired
fired_by Renewed program s c n rises ok told = has_fired-since program s c (born_in (drop (n - 1) s.entries)) rises ok told

tells : (r : Refraction) (program : Program) (s : State) (c : Choice) (o : Option ℕ) → Rises (tags_of s.memory) → matches program s.memory c ≡ true → Told r program s c o → has_fired s c ≡ option_map_or (is_still_fired r program s.memory s.entries c) o false
tells r program s c None rises ok told = told
tells r program s c (Some n) rises ok told = fired_by r program s c n rises ok told.by

pub last_firing_tells : LastFiringTells
last_firing_tells program base s c sound lawful ran ok =
    let followed = IsFollowed-run program base.refraction base.fired sound (start base) (choices_of s.entries) s ran (IsFollowed-start program base lawful) in
    tells base.refraction program s c (fired_at base.fired s.entries c) followed.state.elements.rising ok (followed.told c)
