-- The commit of a claim: there is room for it, and the core is as its event says.
use Rattle.std.proofs.Common.{◌≡◌, ◌+◌, ◌*◌, ◌<◌, ◌≤◌, List, [], ◌∷◌, ◌++◌, Bool, true, false, cond, if◌then◌else◌, ◌||◌, not, Option, None, Ok, Some, filter, find, is_none, length, option_map, slice_get, suc, suc-mul, ◌==◌, refl, sym, ◌∙◌, ap, subst, arith}
use Rattle.std.proofs.Math.Nat.{mul-le-mul_right}
use Rattle.std.proofs.lemmas.List.{length_push}
use Rattle.std.specs.List.{AllByRecursion}
use Rattle.rule_base.specs.declared.instantiation.Choice.{Choice}
use Rattle.rule_base.specs.declared.program.Rule.{Rule}
use Rattle.rule_base.specs.Effect.{Effect, effect, removed_tags}
use Rattle.rule_base.specs.Fits.{Fits}
use Rattle.rule_base.specs.Memory.{HasSize, elements_at}
use Rattle.rule_base.specs.Sound.{sizes_of}
use Rattle.rule_base.specs.State.{count}
use Rattle.rule_base.specs.Step.{born, effect_of, entry_of, step, without}
use Rattle.rule_base.proofs.AmongLemmas.{Among, IsFound-find}
use Rattle.rule_base.proofs.EachLemmas.{Each-append}
use Rattle.rule_base.proofs.MachineLemmas.{IsKeepingStep-sound}
use Rattle.commit_journal.specs.Entries.{born_in}
use Rattle.commit_journal.specs.declared.room.Room.{Room}
use Rattle.commit_journal.specs.Room.{FitsIn, room_for, room_times, room_without}
use Rattle.commit_journal.proofs.ProgramRoomLemmas.{fits}
use Rattle.commit_journal.proofs.RoomLemmas.{FitsIn-room_times-less, FitsIn-room_times-one, FitsIn-room_times-without}
use Rattle.interference.proofs.ListLemmas.{Each-among}
use Rattle.standing_claims.specs.declared.claim.Claim.{Claim}
use Rattle.standing_claims.specs.Standing.{Standing}
use Rattle.firing_core.specs.declared.claims.Event.TheVariants as event
use Rattle.firing_core.specs.declared.machine.Core.TheInside.{Inside}
use Rattle.firing_core.specs.CoreFields.{HoldsKept, core_in, state_in}
use Rattle.firing_core.specs.CoreState.{ended}
use Rattle.firing_core.specs.Events.{apply, with_state, without_claim}
use Rattle.firing_core.specs.Grants.{Granted}
use Rattle.firing_core.specs.Kept.{IsKept}
use Rattle.firing_core.specs.Store.{IsLater, Stored, memory_in}
use Rattle.firing_core.proofs.ClaimLemmas.{IsGoing-ended}
use Rattle.firing_core.proofs.EventLemmas.{IsLawful-apply}
use Rattle.firing_core.proofs.PairLemmas.{length-filter}
use Rattle.firing_core.proofs.FieldLemmas.{sized-born, step-fields}
use Rattle.firing_core.proofs.FireLemmas.{born_in-push, index_after}
use Rattle.firing_core.proofs.GroupedLemmas.{IsGrouping-later}
use Rattle.firing_core.proofs.GrantLemmas.{StandsFor, committed, held, may_fire-held}
use Rattle.firing_core.proofs.KeptLemmas.{IsWithout, fitting_left, footprints_left}
use Rattle.interference.proofs.LockLemmas.{length-tags}

-- the fields before the commit of a claim, its grant, and its effect
pub record MayCommit (before : Inside) (grant : Granted) (done : Effect) : Type 0 where
  pub holds : HoldsKept before
  pub going : ended (core_in before) ≡ None
  pub stands : StandsFor (core_in before) grant
  pub effect : effect_of before.program.value (memory_in before.store) grant.candidate.choice ≡ Some (Ok done)

-- what the entry needs
abbrev pub need_of : Inside → Granted → Effect → Room
need_of before grant done = room_for grant.candidate.choice.tags (removed_tags done.changes) (born before.store.next done.changes) done.pieces

there : (before : Inside) (grant : Granted) (done : Effect) → (may : MayCommit before grant done) → Among may.stands.claim before.claims.claims
there before grant done may = (IsFound-find (λ (c : Claim). c.number == grant.number) before.claims.claims may.stands.claim may.stands.is.numbered).there

fits_grant : (before : Inside) (grant : Granted) (done : Effect) → (may : MayCommit before grant done) → Fits before.program.value may.stands.claim.candidate
fits_grant before grant done may =
    Each-among (λ (claim : Claim). Fits before.program.value claim.candidate) before.claims.claims may.stands.claim may.holds.fitting (there before grant done may)

-- the rule of a choice that has an effect
record IsOfRule (before : Inside) (c : Choice) (done : Effect) : Type 0 where
  rule : Rule
  at : slice_get before.program.value.rules c.rule ≡ Some rule
  comes : effect rule (elements_at (memory_in before.store) c.tags) ≡ Ok done

of_rule : (before : Inside) (c : Choice) (done : Effect) (o : Option Rule) → slice_get before.program.value.rules c.rule ≡ o → option_map (λ (rule : Rule). effect rule (elements_at (memory_in before.store) c.tags)) o ≡ Some (Ok done) → IsOfRule before c done
of_rule before c done None at is = absurd (let wrong : ⊥ = cc in wrong)
of_rule before c done (Some rule) at is = record { rule = rule; at = at; comes = let comes : effect rule (elements_at (memory_in before.store) c.tags) ≡ Ok done = cc in comes }

-- the entry fits in the room that each claim has
pub fits_most : (before : Inside) (grant : Granted) (done : Effect) → MayCommit before grant done → FitsIn (need_of before grant done) before.most
fits_most before grant done may =
    let c = grant.candidate.choice in
    let program = before.program.value in
    let claim = may.stands.claim in
    let of = of_rule before c done (slice_get program.rules c.rule) refl may.effect in
    let fitting = fits_grant before grant done may in
    let sizes = sizes_of program.classes in
    let same_choice = may.stands.is.choice in
    let elements_are : claim.candidate.elements ≡ elements_at (memory_in before.store) c.tags =
    sym (held (core_in before) grant claim may.holds.kept.lawful may.stands.is).elements ∙ ap (λ (d : Choice). elements_at (memory_in before.store) d.tags) same_choice in
    let sized = subst (AllByRecursion (HasSize sizes)) elements_are fitting.sized in
    let counted : length c.tags ≡ length claim.candidate.elements = ap length (ap (λ (d : Choice). d.tags) (sym same_choice) ∙ sym fitting.tags) ∙ length-tags claim.candidate.elements in
    let at_claim : slice_get program.rules claim.candidate.choice.rule ≡ Some of.rule = ap (λ (d : Choice). slice_get program.rules d.rule) same_choice ∙ of.at in
    let positives : of.rule.positives ≡ length claim.candidate.elements =
    (let both : Some of.rule.positives ≡ Some (length claim.candidate.elements) = sym (ap (option_map (λ (r : Rule). r.positives)) at_claim) ∙ fitting.positives in
    let same : of.rule.positives ≡ length claim.candidate.elements = cc in same) in
    subst (FitsIn (need_of before grant done)) (sym may.holds.most)
    (fits program c.rule of.rule (elements_at (memory_in before.store) c.tags) c.tags before.store.next done of.at sized (counted ∙ sym positives) of.comes)

-- a list without what is found in it is shorter
one_fewer : {X : Type 0} (q : X → Bool) (xs : List X) (found : X) → find q xs ≡ Some found → length (filter (λ x. not (q x)) xs) + 1 ≤ length xs
one_fewer q [] found is = absurd (let wrong : ⊥ = cc in wrong)
one_fewer q (x ∷ xs) found is = first (q x) is (one_fewer q xs found)
  where
    first : (b : Bool) → (if b then Some x else find q xs) ≡ Some found → (find q xs ≡ Some found → length (filter (λ x. not (q x)) xs) + 1 ≤ length xs) → length (cond (not b) (x ∷ filter (λ x. not (q x)) xs) (filter (λ x. not (q x)) xs)) + 1 ≤ suc (length xs)
    first true is later = omega (arith, length-filter (λ x. not (q x)) xs)
    first false is later = omega (arith, later is)

some_stand : (before : Inside) (grant : Granted) (done : Effect) → (may : MayCommit before grant done) → 0 < length before.claims.claims
some_stand before grant done may = omega (arith, one_fewer (λ (c : Claim). c.number == grant.number) before.claims.claims may.stands.claim may.stands.is.numbered)

-- so the store has room for it
pub has_room : (before : Inside) (grant : Granted) (done : Effect) → MayCommit before grant done → FitsIn (need_of before grant done) before.store.room
has_room before grant done may =
    FitsIn-room_times-one (length before.claims.claims) (need_of before grant done) before.most before.store.room (fits_most before grant done may) (some_stand before grant done may) may.holds.room

pub has_spare : (before : Inside) (grant : Granted) (done : Effect) → MayCommit before grant done → length (born before.store.next done.changes) ≤ before.store.spare
has_spare before grant done may =
    let most = before.most.elements in
    let once : 1 * most ≤ length before.claims.claims * most = mul-le-mul_right most (some_stand before grant done may) in
    omega (arith, (fits_most before grant done may).elements, once, may.holds.spare)

-- the fields after the commit: the store has taken it in, and the claim has gone
pub record HasCommitted (before : Inside) (store : Stored) (left : Standing) (grant : Granted) (done : Effect) : Type 0 where
  pub base : store.base ≡ before.store.base
  pub memory : memory_in store ≡ without (memory_in before.store) (removed_tags done.changes) ++ born before.store.next done.changes
  pub entries : store.entries ≡ before.store.entries ++ entry_of before.store.next grant.candidate.choice done ∷ []
  pub next : store.next ≡ before.store.next + length (born before.store.next done.changes)
  pub room : store.room ≡ room_without before.store.room (need_of before grant done)
  pub spare : before.store.spare ≤ store.spare + length (born before.store.next done.changes)
  pub later : IsLater before.store store
  pub gone : IsWithout before.claims left grant.number

-- its state is the next one
commit_step : (before : Inside) (store : Stored) (left : Standing) (grant : Granted) (done : Effect) → MayCommit before grant done → HasCommitted before store left grant done → step before.program.value (state_in before) grant.candidate.choice ≡ Some (state_in (record before { store = store; halted = done.halts }))
commit_step before store left grant done may has =
    let lawful = may.holds.kept.lawful in
    let going : before.halted ≡ false = (IsGoing-ended (core_in before) lawful (ap is_none may.going)).going in
    step-fields before store done.halts grant.candidate.choice done may.holds.kept (may_fire-held (core_in before) grant may.stands.claim lawful may.going may.stands.is) may.effect has.base has.memory has.next has.entries (ap (λ b. b || done.halts) (sym going))

core_after : (before : Inside) (store : Stored) (left : Standing) (grant : Granted) (done : Effect) → HasCommitted before store left grant done → core_in (record before { store = store; halted = done.halts; claims = left }) ≡ without_claim (with_state (core_in before) (state_in (record before { store = store; halted = done.halts }))) grant.number
core_after before store left grant done has =
    λ i. record (core_in (record before { store = store; halted = done.halts; claims = left })) { base = has.base i; claims = has.gone.claims i; given = has.gone.given i }

-- the core has gone on by its event
pub after_commit_is : (before : Inside) (store : Stored) (left : Standing) (grant : Granted) (done : Effect) → MayCommit before grant done → HasCommitted before store left grant done → apply (core_in before) (event.Committed grant.number) ≡ Some (core_in (record before { store = store; halted = done.halts; claims = left }))
after_commit_is before store left grant done may has =
    committed (core_in before) grant may.stands.claim (state_in (record before { store = store; halted = done.halts })) may.stands.is may.going (commit_step before store left grant done may has)
    ∙ ap (λ k. Some k) (sym (core_after before store left grant done has))

kept_after : (before : Inside) (store : Stored) (left : Standing) (grant : Granted) (done : Effect) → MayCommit before grant done → HasCommitted before store left grant done → IsKept (core_in (record before { store = store; halted = done.halts; claims = left }))
kept_after before store left grant done may has =
    let k = core_in before in
    let kept = may.holds.kept in
    let c = grant.candidate.choice in
    let next = state_in (record before { store = store; halted = done.halts }) in
    let steps = commit_step before store left grant done may has in
    let keeps = IsKeepingStep-sound k.program k.state c next kept.lawful.sound kept.state steps in
    let counted : count next ≡ count k.state + 1 = ap length has.entries ∙ length_push before.store.entries (entry_of before.store.next c done) in
    record {
      lawful = IsLawful-apply k (core_in (record before { store = store; halted = done.halts; claims = left })) (event.Committed grant.number) kept.lawful (after_commit_is before store left grant done may has);
      state = keeps.state;
      next_is_low = omega (arith, counted, keeps.near, kept.next_is_low);
      refraction = refl;
    }

-- and what the fields keep, they keep on
pub HoldsKept-committed : (before : Inside) (store : Stored) (left : Standing) (grant : Granted) (done : Effect) → MayCommit before grant done → HasCommitted before store left grant done → HoldsKept (record before { store = store; halted = done.halts; claims = left })
HoldsKept-committed before store left grant done may has =
    let old = before.store in
    let c = grant.candidate.choice in
    let holds = may.holds in
    let program = before.program.value in
    let sizes = sizes_of program.classes in
    let most = before.most in
    let n = length left.claims in
    let fewer : n + 1 ≤ length before.claims.claims = omega (arith, ap length has.gone.claims, one_fewer (λ (c : Claim). c.number == grant.number) before.claims.claims may.stands.claim may.stands.is.numbered) in
    let room = FitsIn-room_times-without n (need_of before grant done) most old.room (fits_most before grant done may) (FitsIn-room_times-less (n + 1) (length before.claims.claims) most old.room fewer holds.room) in
    let fewer_too : suc n ≤ length before.claims.claims = omega (arith, fewer) in
    let more : suc n * most.elements ≤ length before.claims.claims * most.elements = mul-le-mul_right most.elements fewer_too in
    let split : suc n * most.elements ≡ n * most.elements + most.elements = suc-mul n most.elements in
    record {
      kept = kept_after before store left grant done may has;
      index = index_after old.base store.base old.entries store.entries (entry_of old.next c done) before.index has.base has.entries holds.index;
      grouped = IsGrouping-later before.grouped old store has.later holds.grouped;
      splits = holds.splits;
      footprints = footprints_left before left grant.number holds has.gone;
      fitting = fitting_left before left grant.number holds has.gone;
      most = holds.most;
      room = subst (FitsIn (room_times n most)) (sym has.room) room;
      spare = omega (arith, more, split, holds.spare, has.spare, (fits_most before grant done may).elements);
      born = subst (λ es. AllByRecursion (HasSize sizes) (born_in es)) (sym has.entries)
          (subst (AllByRecursion (HasSize sizes)) (sym (born_in-push old.entries old.next c done)) (Each-append (HasSize sizes) (born_in old.entries) (born old.next done.changes) holds.born
          (sized-born (core_in before) c done holds.kept (may_fire-held (core_in before) grant may.stands.claim holds.kept.lawful may.going may.stands.is) may.effect)));
    }
