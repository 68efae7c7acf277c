-- What a firing leaves of a core's fields.
use Rattle.std.proofs.Common.{◌≡◌, ℕ, ◌+◌, ◌<◌, ◌≤◌, List, [], ◌∷◌, ◌++◌, ◌||◌, Bool, true, length, None, Ok, Some, refl, sym, ◌∙◌, ap, subst, take, suc, zero, arith, length-append}
use Rattle.std.specs.List.{AllByRecursion, filter_map}
use Rattle.std.proofs.lemmas.Grind.{flat_map-append}
use Rattle.rule_base.specs.declared.base.Base.{Base}
use Rattle.rule_base.specs.declared.entry.Entry.{Entry}
use Rattle.rule_base.specs.declared.instantiation.Choice.{Choice}
use Rattle.rule_base.specs.Effect.{Effect, removed_tags}
use Rattle.rule_base.specs.Memory.{HasSize}
use Rattle.rule_base.specs.Sound.{sizes_of}
use Rattle.rule_base.specs.State.{count}
use Rattle.rule_base.specs.Step.{born, effect_of, entry_of, may_fire, step, without}
use Rattle.rule_base.proofs.EachLemmas.{Each-append}
use Rattle.commit_journal.specs.Entries.{born_by, born_in}
use Rattle.refraction_index.specs.Firings.{Index, Tells}
use Rattle.refraction_index.proofs.StillFiredLemmas.{born_in-entry}
use Rattle.firing_core.specs.declared.machine.Core.TheInside.{Inside}
use Rattle.firing_core.specs.CoreFields.{HoldsKept, IsIndexOf, core_in, state_in}
use Rattle.firing_core.specs.Firing.{Fires}
use Rattle.firing_core.specs.Kept.{IsKept}
use Rattle.firing_core.specs.Store.{IsLater, Stored, at_places, came, memory_in}
use Rattle.firing_core.proofs.FieldLemmas.{sized-born, step-fields}
use Rattle.firing_core.proofs.KeptLemmas.{no_room}
use Rattle.firing_core.proofs.GroupedLemmas.{IsGrouping-later}
use Rattle.firing_core.proofs.LaterLemmas.{IsLater-same}
use Rattle.firing_core.proofs.LawfulLemmas.{IsKept-step}

-- the fields before a firing that may come, its choice, and its effect
pub record MayFireFields (before : Inside) (c : Choice) (done : Effect) : Type 0 where
  pub holds : HoldsKept before
  pub alone : before.claims.claims ≡ []
  pub unfailed : before.fault ≡ None
  pub within : count (state_in before) < before.budget
  pub may : may_fire before.program.value (state_in before) c ≡ true
  pub effect : effect_of before.program.value (memory_in before.store) c ≡ Some (Ok done)

-- the store after the commit, behind one that has made room for it
pub record IsCommitted (old reserved new : Stored) (c : Choice) (done : Effect) : Type 0 where
  pub places : reserved.places ≡ old.places
  pub same_base : reserved.base ≡ old.base
  pub same_entries : reserved.entries ≡ old.entries
  pub same_next : reserved.next ≡ old.next
  pub memory : memory_in new ≡ without (memory_in reserved) (removed_tags done.changes) ++ born reserved.next done.changes
  pub base : new.base ≡ reserved.base
  pub entries : new.entries ≡ reserved.entries ++ entry_of reserved.next c done ∷ []
  pub next : new.next ≡ reserved.next + length (born reserved.next done.changes)
  pub later : IsLater reserved new

pub memory_in-same : (s t : Stored) → s.places ≡ t.places → s.base ≡ t.base → s.entries ≡ t.entries → memory_in s ≡ memory_in t
memory_in-same s t places base entries = λ i. at_places (came (base i) (entries i)) (places i)

entries_after : (old reserved new : Stored) (c : Choice) (done : Effect) → IsCommitted old reserved new c done → new.entries ≡ old.entries ++ entry_of old.next c done ∷ []
entries_after old reserved new c done is = is.entries ∙ (λ i. is.same_entries i ++ entry_of (is.same_next i) c done ∷ [])

-- the step of the machine
pub fired_step : (before : Inside) (reserved new : Stored) (halted : Bool) (c : Choice) (done : Effect) → MayFireFields before c done → IsCommitted before.store reserved new c done → halted ≡ (before.halted || done.halts) → step before.program.value (state_in before) c ≡ Some (state_in (record before { store = new; halted = halted }))
fired_step before reserved new halted c done may is halts =
    let old = before.store in
    let memory_is = memory_in-same reserved old is.places is.same_base is.same_entries in
    step-fields before new halted c done may.holds.kept may.may may.effect (is.base ∙ is.same_base)
    (is.memory ∙ (λ i. without (memory_is i) (removed_tags done.changes) ++ born (is.same_next i) done.changes))
    (is.next ∙ (λ i. is.same_next i + length (born (is.same_next i) done.changes)))
    (entries_after old reserved new c done is) halts

-- the core after it, but for its state, is the core before
same_core : (before : Inside) (new : Stored) (halted : Bool) → new.base ≡ before.store.base → core_in (record before { store = new; halted = halted }) ≡ record (core_in before) { state = state_in (record before { store = new; halted = halted }) }
same_core before new halted base = λ i. record (core_in (record before { store = new; halted = halted })) { base = base i }

-- an index tells the same where there is an entry more
take_within : {X : Type 0} (n : ℕ) (xs ys : List X) → n ≤ length xs → take n (xs ++ ys) ≡ take n xs
take_within zero xs ys le = refl
take_within (suc n) [] ys le = absurd (omega (arith, le))
take_within (suc n) (x ∷ xs) ys le = ap (λ rest. x ∷ rest) (take_within n xs ys (omega (arith, le)))

pub index_after : (old new : Base) (entries after : List Entry) (entry : Entry) (index : Index) → new ≡ old → after ≡ entries ++ entry ∷ [] → IsIndexOf old.fired entries index → IsIndexOf new.fired after index
index_after old new entries after entry index base_is is kept = record {
  within = omega (arith, kept.within, ap length is, length-append entries (entry ∷ []));
  tells =
      let same : take index.seen entries ≡ take index.seen after = sym (ap (take index.seen) is ∙ take_within index.seen entries (entry ∷ []) kept.within) in
      subst (λ (b : Base). Tells b.fired (take index.seen after) index) (sym base_is) (subst (λ es. Tells old.fired es index) same kept.tells);
}

-- what was born in one entry more
pub born_in-push : (entries : List Entry) (next : ℕ) (c : Choice) (done : Effect) → born_in (entries ++ entry_of next c done ∷ []) ≡ born_in entries ++ born next done.changes
born_in-push entries next c done =
    flat_map-append (λ (e : Entry). filter_map born_by e.changes) entries (entry_of next c done ∷ []) ∙ ap (λ es. born_in entries ++ es) (born_in-entry next c done)

-- what the fields keep
pub HoldsKept-fired : (before : Inside) (reserved new : Stored) (halted : Bool) (c : Choice) (done : Effect) → MayFireFields before c done → IsCommitted before.store reserved new c done → halted ≡ (before.halted || done.halts) → HoldsKept (record before { store = new; halted = halted })
HoldsKept-fired before reserved new halted c done may is halts =
    let old = before.store in
    let k = core_in before in
    let sizes = sizes_of before.program.value.classes in
    let steps = fired_step before reserved new halted c done may is halts in
    let entries_are = entries_after old reserved new c done is in
    let base_is = is.base ∙ is.same_base in
    record {
      kept = subst IsKept (sym (same_core before new halted base_is)) (IsKept-step k c (state_in (record before { store = new; halted = halted })) may.holds.kept may.alone may.unfailed may.within steps);
      index = index_after old.base new.base old.entries new.entries (entry_of old.next c done) before.index base_is entries_are may.holds.index;
      grouped = IsGrouping-later before.grouped reserved new is.later (IsGrouping-later before.grouped old reserved (IsLater-same old reserved is.same_base is.same_entries is.places) may.holds.grouped);
      splits = may.holds.splits;
      most = may.holds.most;
      room = (no_room before.claims.claims before.most new.room new.spare may.alone).0;
      spare = (no_room before.claims.claims before.most new.room new.spare may.alone).1;
      footprints = may.holds.footprints;
      fitting = may.holds.fitting;
      born = subst (λ es. AllByRecursion (HasSize sizes) (born_in es)) (sym entries_are)
          (subst (AllByRecursion (HasSize sizes)) (sym (born_in-push old.entries old.next c done)) (Each-append (HasSize sizes) (born_in old.entries) (born old.next done.changes) may.holds.born (sized-born k c done may.holds.kept may.may may.effect)));
    }

-- and what contracts see
pub Fires-fired : (before : Inside) (reserved new : Stored) (halted : Bool) (c : Choice) (done : Effect) → MayFireFields before c done → IsCommitted before.store reserved new c done → halted ≡ (before.halted || done.halts) → Fires (core_in before) (core_in (record before { store = new; halted = halted })) c
Fires-fired before reserved new halted c done may is halts = record {
  steps = fired_step before reserved new halted c done may is halts;
  same = record { of_program = refl; from_base = is.base ∙ is.same_base; with_budget = refl };
  claims = (refl, refl);
  fault = refl;
}
