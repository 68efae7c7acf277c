-- The state that a core's fields hold: at its base, and after a firing.
use Rattle.std.proofs.Common.{◌≡◌, ◌+◌, List, [], ◌∷◌, ◌++◌, ◌||◌, Bool, true, false, length, map, None, Ok, Some, arith, option_and_then, refl, sym, ◌∙◌, ap, subst, take}
use Rattle.std.specs.List.{AllByRecursion}
use Rattle.std.specs.Option.{option_map_or}
use Rattle.std.proofs.lemmas.List.{map_push}
use Rattle.rule_base.specs.declared.base.Base.{Base}
use Rattle.rule_base.specs.declared.entry.Entry.{Entry}
use Rattle.rule_base.specs.declared.instantiation.Choice.{Choice}
use Rattle.rule_base.specs.declared.program.Program.{Program}
use Rattle.rule_base.specs.Effect.{Effect}
use Rattle.rule_base.specs.Memory.{HasSize}
use Rattle.rule_base.specs.Sound.{sizes_of}
use Rattle.rule_base.specs.State.{State, choices_of, start}
use Rattle.rule_base.specs.Step.{born, committed, effect_of, entry_of, may_fire, memory_after, step}
use Rattle.rule_base.specs.Run.{run}
use Rattle.rule_base.proofs.MachineLemmas.{IsKeepingStep-sound}
use Rattle.rule_base.proofs.StepLemmas.{run-append, step-from_parts}
use Rattle.firing_core.specs.declared.machine.Core.TheInside.{Inside}
use Rattle.refraction_index.specs.Firings.{Index, Tells}
use Rattle.firing_core.specs.CoreFields.{IsIndexOf, core_in, fired_in, state_in}
use Rattle.interference.specs.Footprint.{footprint}
use Rattle.standing_claims.specs.declared.claim.Claim.{Claim}
use Rattle.standing_claims.specs.Standing.{Standing}
use Rattle.firing_core.specs.CoreState.{CoreState}
use Rattle.firing_core.specs.Refusals.{claimed_footprints}
use Rattle.firing_core.specs.Kept.{IsKept}
use Rattle.firing_core.specs.Store.{Stored, memory_in}
use Rattle.firing_core.proofs.CommitLemmas.{same_state}

-- the fields of a core at its base
state_in-start : (core : Inside) (base : Base) → core.store.base ≡ base → memory_in core.store ≡ base.elements → core.store.next ≡ base.next → core.store.entries ≡ [] → core.halted ≡ false → state_in core ≡ start base
state_in-start core base base_is memory next entries halted =
    let fired : (state_in core).fired ≡ base.fired = ap (λ b. fired_in core.program.value b core.store.entries) base_is ∙ ap (fired_in core.program.value base) entries in
    same_state (state_in core) (start base) memory next fired entries halted (ap (λ (b : Base). b.refraction) base_is)

pub core_in-start : (core : Inside) (base : Base) → core.store.base ≡ base → memory_in core.store ≡ base.elements → core.store.next ≡ base.next → core.store.entries ≡ [] → core.halted ≡ false → core.claims ≡ record { claims = []; footprints = []; given = 0; spare = 0 } → core.fault ≡ None → core_in core ≡ record { program = core.program.value; base = base; budget = core.budget; state = start base; claims = []; given = 0; fault = None }
core_in-start core base base_is memory next entries halted claims fault =
    let state = state_in-start core base base_is memory next entries halted in
    λ i. record { program = core.program.value; base = base_is i; budget = core.budget; state = state i; claims = (claims i).claims; given = (claims i).given; fault = fault i }

-- no claims, and no footprints
pub footprints-start : (core : Inside) → core.claims ≡ record { claims = []; footprints = []; given = 0; spare = 0 } → core.claims.footprints ≡ claimed_footprints (core_in core)
footprints-start core claims = ap (λ (s : Standing). s.footprints) claims ∙ sym (ap (λ (s : Standing). map (λ (claim : Claim). footprint core.program.value claim.candidate) s.claims) claims)

-- an index that has taken in nothing
pub IsIndexOf-start : (base stored : Base) (entries : List Entry) (index : Index) → stored ≡ base → index.seen ≡ 0 → Tells base.fired [] index → IsIndexOf stored.fired entries index
IsIndexOf-start base stored entries index base_is seen tells = record {
  within = omega (arith, seen);
  tells = subst (λ n. Tells stored.fired (take n entries) index) (sym seen) (subst (λ (b : Base). Tells b.fired [] index) (sym base_is) tells);
}

-- what is fired after one entry more
pub fired_in-push : (program : Program) (base : Base) (entries : List Entry) (s after : State) (entry : Entry) → run program (start base) (choices_of entries) ≡ Some s → step program s entry.choice ≡ Some after → fired_in program base (entries ++ entry ∷ []) ≡ after.fired
fired_in-push program base entries s after entry ran steps =
    let c = entry.choice in
    let choices_are : choices_of (entries ++ entry ∷ []) ≡ choices_of entries ++ c ∷ [] = map_push (λ (e : Entry). e.choice) entries entry in
    let last : run program s (c ∷ []) ≡ Some after = ap (option_and_then (λ (t : State). Some t)) steps in
    let all : run program (start base) (choices_of (entries ++ entry ∷ [])) ≡ Some after =
    ap (run program (start base)) choices_are ∙ run-append program (start base) (choices_of entries) (c ∷ []) ∙ ap (option_and_then (λ (t : State). run program t (c ∷ []))) ran ∙ last in
    ap (λ o. option_map_or (λ (t : State). t.fired) o []) all

-- fields with a store and a halt that a firing has changed hold the state after the step
pub step-fields : (before : Inside) (store : Stored) (halted : Bool) (c : Choice) (done : Effect) → IsKept (core_in before) → may_fire before.program.value (state_in before) c ≡ true → effect_of before.program.value (memory_in before.store) c ≡ Some (Ok done) → store.base ≡ before.store.base → memory_in store ≡ memory_after (state_in before) done → store.next ≡ before.store.next + length (born before.store.next done.changes) → store.entries ≡ before.store.entries ++ entry_of before.store.next c done ∷ [] → halted ≡ (before.halted || done.halts) → step before.program.value (state_in before) c ≡ Some (state_in (record before { store = store; halted = halted }))
step-fields before store halted c done kept may effect base memory next entries halts =
    let program = before.program.value in
    let s = state_in before in
    let target = committed program s c done in
    let steps : step program s c ≡ Some target = step-from_parts program s c done may effect in
    let after = state_in (record before { store = store; halted = halted }) in
    let fired : after.fired ≡ target.fired =
    ap (λ b. fired_in program b store.entries) base ∙ ap (fired_in program before.store.base) entries ∙ fired_in-push program before.store.base before.store.entries s target (entry_of before.store.next c done) kept.lawful.ran steps in
    let same : after ≡ target = same_state after target memory next fired entries halts (ap (λ (b : Base). b.refraction) base) in
    steps ∙ ap (λ t. Some t) (sym same)

-- the later part of a list whose items have a property
each_right : {X : Type 0} (P : X → Type 0) (xs ys : List X) → AllByRecursion P (xs ++ ys) → AllByRecursion P ys
each_right P [] ys all = all
each_right P (x ∷ xs) ys all = each_right P xs ys all.1

-- what a firing makes has sizes
pub sized-born : (k : CoreState) (c : Choice) (done : Effect) → IsKept k → may_fire k.program k.state c ≡ true → effect_of k.program k.state.memory c ≡ Some (Ok done) → AllByRecursion (HasSize (sizes_of k.program.classes)) (born k.state.next done.changes)
sized-born k c done kept may effect =
    let target = committed k.program k.state c done in
    let steps : step k.program k.state c ≡ Some target = step-from_parts k.program k.state c done may effect in
    let keeps = IsKeepingStep-sound k.program k.state c target kept.lawful.sound kept.state steps in
    each_right (HasSize (sizes_of k.program.classes)) _ (born k.state.next done.changes) keeps.state.elements.sized

-- all of a list that was taken as far as it goes
pub take_all : {X : Type 0} (xs : List X) → take (length xs) xs ≡ xs
take_all [] = refl
take_all (x ∷ xs) = ap (λ rest. x ∷ rest) (take_all xs)
