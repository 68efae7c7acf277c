-- A firing is followed: its choice is marked, and its changes are taken in.
use Rattle.std.proofs.Common.{◌≡◌, ℕ, ◌+◌, ◌≤◌, ◌||◌, List, [], ◌∷◌, ◌++◌, Some, ap, arith, subst, sym, ◌∙◌}
use Rattle.rule_base.specs.declared.change.Change.{Change}
use Rattle.rule_base.specs.declared.change.Change.TheVariants.{Make, Remove}
use Rattle.rule_base.specs.declared.element.Element.{Element}
use Rattle.rule_base.specs.declared.instantiation.Choice.{Choice}
use Rattle.rule_base.specs.declared.program.Program.{Program}
use Rattle.rule_base.specs.Effect.{Effect, removed_tags}
use Rattle.rule_base.specs.Memory.{Memory}
use Rattle.rule_base.specs.State.{State, choices_of, start}
use Rattle.rule_base.specs.Step.{born, committed, without}
use Rattle.rule_base.proofs.EachLemmas.{Each-weaker}
use Rattle.rule_base.proofs.RunLemmas.{StillMatch-run}
use Rattle.rule_base.proofs.StepLemmas.{step-from_parts}
use Rattle.conflict_parts.specs.declared.standing.RowId.{RowId}
use Rattle.conflict_parts.specs.Part.{Part}
use Rattle.conflict_parts.specs.Queue.{same_row}
use Rattle.conflict_parts.specs.Standings.{is_marked}
use Rattle.firing_core.specs.CoreState.{CoreState}
use Rattle.firing_core.specs.Firing.{Fires}
use Rattle.firing_workers.specs.Following.{Follows, IsSettled, with_changes, with_fired, with_memory}
use Rattle.firing_workers.specs.Turn.{MayFire}
use Rattle.firing_workers.proofs.BornLemmas.{AllFrom}
use Rattle.firing_workers.proofs.FollowingLemmas.{commit_is_followed, marking_is_followed}
use Rattle.firing_workers.proofs.LeftLemmas.{matching_is_settled}

-- what is born has the next tags
born_from : (next : ℕ) (changes : List Change) → AllFrom next (born next changes)
born_from next [] = tt
born_from next (Remove tag ∷ changes) = born_from next changes
born_from next (Make class values ∷ changes) =
    (omega arith, Each-weaker (λ (e : Element). next + 1 ≤ e.tag) (λ (e : Element). next ≤ e.tag) (λ e h. omega (arith, h)) (born (next + 1) changes) (born_from (next + 1) changes))

-- the state that a firing leads to is the commit of its effect
fired_state : (old new : CoreState) (part : Part) (c : Choice) (done : Effect) (id : RowId) → MayFire old part c done id → Fires old new c → new.state ≡ committed old.program old.state c done
fired_state old new part c done id may fires =
    let both : Some new.state ≡ Some (committed old.program old.state c done) = sym fires.steps ∙ step-from_parts old.program old.state c done may.may may.effect in
    cc

pub next_is_later : (old new : CoreState) (part : Part) (c : Choice) (done : Effect) (id : RowId) → MayFire old part c done id → Fires old new c → old.state.next ≤ new.state.next
next_is_later old new part c done id may fires =
    omega (arith, ap (λ (s : State). s.next) (fired_state old new part c done id may fires))

-- a part takes in a firing's changes, from any state that it follows
abbrev pub Settles : ℕ → CoreState → Effect → Part → Part → Type 0
Settles from new done marked after =
    (program : Program) (s : State) (more : Memory) → Follows program s marked → IsSettled s marked → s.next ≡ from →
    new.state.memory ≡ without s.memory (removed_tags done.changes) ++ more → AllFrom from more →
    Follows program (with_memory s new.state.memory new.state.next) after

pub settled_is_followed : (old new : CoreState) (c : Choice) (done : Effect) (id : RowId) (from : ℕ) (before marked after : Part) →
    from ≡ old.state.next → MayFire old before c done id → Follows old.program old.state before → Fires old new c →
    marked.network ≡ before.network → marked.refraction ≡ before.refraction →
    ((rule number : ℕ) → is_marked marked.standings rule number ≡ (is_marked before.standings rule number || same_row rule number id)) →
    Settles from new done marked after → Follows new.program new.state after
settled_is_followed old new c done id from before marked after is may follows fires network refraction marks settles =
    let program = old.program in
    let s = old.state in
    let candidate = may.of.candidate in
    let lawful = may.lawful in
    let still = StillMatch-run program (start old.base) (choices_of s.entries) s lawful.ran lawful.began.matching in
    let settled = matching_is_settled program s before follows still in
    let marking = marking_is_followed program s before marked id candidate.row follows settled candidate.lives candidate.free network refraction marks in
    let fired = subst (λ (d : Choice). Follows program (with_fired s d) marked × IsSettled (with_fired s d) marked) (sym may.of.is) marking in
    let state = fired_state old new before c done id may fires in
    let more = born s.next done.changes in
    let late = subst (λ (next : ℕ). AllFrom next more) (sym is) (born_from s.next done.changes) in
    let all = settles program (with_fired s c) more fired.0 fired.1 (sym is) (ap (λ (t : State). t.memory) state) late in
    let changed : Follows program (with_changes s c done) after = subst (λ (t : State). Follows program (with_memory (with_fired s c) t.memory t.next) after) state all in
    subst (λ (p : Program). Follows p new.state after) (sym fires.same.of_program)
    (subst (λ (t : State). Follows program t after) (sym state) (commit_is_followed program s c done after changed))
