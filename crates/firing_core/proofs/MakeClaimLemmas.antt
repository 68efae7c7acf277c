-- The claim of a candidate that nothing refuses: its grant may fire, and the core is as its event says.
use Rattle.std.proofs.Common.{◌≡◌, ℕ, ◌+◌, ◌*◌, ◌≤◌, List, [], ◌∷◌, ◌++◌, ◌&&◌, IsSome, None, Some, is_none, inl, length, map, refl, sym, ◌∙◌, ap, subst, arith}
use Rattle.std.specs.List.{AllByRecursion}
use Rattle.std.proofs.lemmas.List.{length_push, map_push}
use Rattle.std.proofs.lemmas.Option.{get_or_from_slice_get, slice_get_within}
use Rattle.rule_base.specs.declared.base.Base.{Base}
use Rattle.rule_base.specs.declared.entry.Entry.{Entry}
use Rattle.rule_base.specs.declared.instantiation.Candidate.{Candidate}
use Rattle.rule_base.specs.declared.lock.Mode.{Mode}
use Rattle.rule_base.specs.declared.program.Rule.{Rule}
use Rattle.rule_base.specs.Chains.{only_if}
use Rattle.rule_base.specs.ElementMatch.{bindings_with}
use Rattle.rule_base.specs.Fits.{Fits}
use Rattle.rule_base.specs.Memory.{HasSize, elements_at}
use Rattle.rule_base.specs.Sound.{sizes_of}
use Rattle.rule_base.proofs.AmongLemmas.{Among-append_right}
use Rattle.rule_base.proofs.EachLemmas.{Each-append}
use Rattle.rhs_actions.specs.Outcomes.{no_rule, rule_at}
use Rattle.commit_journal.specs.declared.room.Room.{Room}
use Rattle.commit_journal.specs.Entries.{born_in}
use Rattle.commit_journal.specs.Room.{FitsIn, room_times}
use Rattle.commit_journal.proofs.RoomLemmas.{FitsIn-trans}
use Rattle.interference.specs.Footprint.{footprint}
use Rattle.interference.proofs.ListLemmas.{Each-among}
use Rattle.interference.proofs.MatchedLemmas.{matches-listed}
use Rattle.refraction_index.specs.Firings.{Index}
use Rattle.standing_claims.specs.declared.claim.Claim.{Claim}
use Rattle.standing_claims.specs.Standing.{Standing}
use Rattle.firing_core.specs.declared.claims.Event.TheVariants as event
use Rattle.firing_core.specs.declared.machine.Core.TheInside.{Inside}
use Rattle.firing_core.specs.CoreFields.{HoldsKept, IsIndexOf, core_in, fired_in}
use Rattle.firing_core.specs.CoreState.{CoreState}
use Rattle.firing_core.specs.Events.{apply, with_claim}
use Rattle.firing_core.specs.Grants.{Granted, MayFireAway}
use Rattle.firing_core.specs.Kept.{IsKept}
use Rattle.firing_core.specs.Lawful.{IsHeld, IsLawful}
use Rattle.firing_core.specs.Refusals.{claim_refusal}
use Rattle.firing_core.specs.Store.{Stored, at_places, came}
use Rattle.firing_core.proofs.CommitLemmas.{HasMatch-matches}
use Rattle.firing_core.proofs.EventLemmas.{IsLawful-apply, IsState-lawful}
use Rattle.firing_core.proofs.FittingLemmas.{fitting_is_decided}
use Rattle.firing_core.proofs.GroupedLemmas.{IsGrouping-later}
use Rattle.firing_core.proofs.LaterLemmas.{IsLater-same}

-- such a claim may be made
pub claimed_event : (k : CoreState) (candidate : Candidate) → Fits k.program candidate → claim_refusal k candidate ≡ None → apply k (event.Claimed candidate) ≡ Some (with_claim k candidate)
claimed_event k candidate fits free =
    ap (λ b. only_if (b && is_none (claim_refusal k candidate)) (with_claim k candidate)) ((fitting_is_decided k.program candidate).1 fits)
    ∙ ap (λ o. only_if (is_none o) (with_claim k candidate)) free

lawful_after : (k : CoreState) (candidate : Candidate) → IsLawful k → Fits k.program candidate → claim_refusal k candidate ≡ None → IsLawful (with_claim k candidate)
lawful_after k candidate lawful fits free = IsLawful-apply k (with_claim k candidate) (event.Claimed candidate) lawful (claimed_event k candidate fits free)

-- its grant
abbrev pub grant_of : CoreState → Candidate → Granted
grant_of k candidate = record { program = k.program; number = k.given + 1; candidate = candidate }

held_last : (k : CoreState) (candidate : Candidate) → IsLawful k → Fits k.program candidate → claim_refusal k candidate ≡ None → IsHeld k.program k.state (record { number = k.given + 1; candidate = candidate })
held_last k candidate lawful fits free =
    let claim : Claim = record { number = k.given + 1; candidate = candidate } in
    Each-among (IsHeld k.program k.state) (k.claims ++ claim ∷ []) claim (lawful_after k candidate lawful fits free).claims.held (Among-append_right claim k.claims (claim ∷ []) (inl refl))

pub may_fire_away : (k : CoreState) (candidate : Candidate) → IsLawful k → Fits k.program candidate → claim_refusal k candidate ≡ None → MayFireAway (grant_of k candidate)
may_fire_away k candidate lawful fits free =
    let c = candidate.choice in
    let held = held_last k candidate lawful fits free in
    let has = HasMatch-matches k.program k.state.memory c (matches-listed k.program k.state.memory c (IsState-lawful k lawful).elements.rising held.ready.listed) in
    let rule_is : rule_at k.program c.rule ≡ has.rule = get_or_from_slice_get k.program.rules c.rule has.rule no_rule has.at in
    record {
      sound = lawful.sound;
      there = slice_get_within k.program.rules c.rule has.rule has.at;
      accepted = subst (λ elements. IsSome (bindings_with (rule_at k.program c.rule) elements)) held.elements
          (subst (λ (rule : Rule). IsSome (bindings_with rule (elements_at k.state.memory c.tags))) (sym rule_is) has.accepted);
    }

-- the fields after it: the store has room for one claim more, and the claim stands with its footprint
pub record HasClaimed (before : Inside) (store : Stored) (standing : Standing) (candidate : Candidate) (needed : Room) : Type 0 where
  pub places : store.places ≡ before.store.places
  pub base : store.base ≡ before.store.base
  pub entries : store.entries ≡ before.store.entries
  pub next : store.next ≡ before.store.next
  pub needs : needed ≡ room_times (length before.claims.claims + 1) before.most
  pub room : FitsIn needed store.room
  pub spare : needed.elements ≤ store.spare
  pub claims : standing.claims ≡ before.claims.claims ++ record { number = before.claims.given + 1; candidate = candidate } ∷ []
  pub footprints : standing.footprints ≡ before.claims.footprints ++ footprint before.program.value candidate ∷ []
  pub given : standing.given ≡ before.claims.given + 1

pub core_claimed : (before : Inside) (store : Stored) (standing : Standing) (candidate : Candidate) (needed : Room) → HasClaimed before store standing candidate needed → core_in (record before { store = store; claims = standing }) ≡ with_claim (core_in before) candidate
core_claimed before store standing candidate needed has = λ i. record {
  program = before.program.value;
  base = has.base i;
  budget = before.budget;
  state = record {
    memory = at_places (came (has.base i) (has.entries i)) (has.places i);
    next = has.next i;
    fired = fired_in before.program.value (has.base i) (has.entries i);
    entries = has.entries i;
    halted = before.halted;
    refraction = (has.base i).refraction;
  };
  claims = has.claims i;
  given = has.given i;
  fault = before.fault;
}

index_same : (old new : Base) (entries after : List Entry) (index : Index) → new ≡ old → after ≡ entries → IsIndexOf old.fired entries index → IsIndexOf new.fired after index
index_same old new entries after index base_is is kept =
    subst (λ (b : Base). IsIndexOf b.fired after index) (sym base_is) (subst (λ es. IsIndexOf old.fired es index) (sym is) kept)

pub HoldsKept-claimed : (before : Inside) (store : Stored) (standing : Standing) (candidate : Candidate) (needed : Room) → HoldsKept before → Fits before.program.value candidate → claim_refusal (core_in before) candidate ≡ None → HasClaimed before store standing candidate needed → HoldsKept (record before { store = store; claims = standing })
HoldsKept-claimed before store standing candidate needed holds fits free has =
    let k = core_in before in
    let program = before.program.value in
    let by : Claim → List (ℕ × Mode) = λ (claim : Claim). footprint program claim.candidate in
    let new : Claim = record { number = before.claims.given + 1; candidate = candidate } in
    let fitting : Claim → Type 0 = λ (claim : Claim). Fits program claim.candidate in
    let counted : length standing.claims ≡ length before.claims.claims + 1 = ap length has.claims ∙ length_push before.claims.claims new in
    let room : FitsIn (room_times (length standing.claims) before.most) store.room =
    subst (λ n. FitsIn (room_times n before.most) store.room) (sym counted) (subst (λ (r : Room). FitsIn r store.room) has.needs has.room) in
    let spare : length standing.claims * before.most.elements ≤ store.spare =
    subst (λ n. n * before.most.elements ≤ store.spare) (sym counted) (subst (λ (r : Room). r.elements ≤ store.spare) has.needs has.spare) in
    record {
      kept = subst IsKept (sym (core_claimed before store standing candidate needed has)) (record {
        lawful = lawful_after k candidate holds.kept.lawful fits free;
        state = holds.kept.state;
        next_is_low = holds.kept.next_is_low;
        refraction = holds.kept.refraction;
      });
      index = index_same before.store.base store.base before.store.entries store.entries before.index has.base has.entries holds.index;
      grouped = IsGrouping-later before.grouped before.store store (IsLater-same before.store store has.base has.entries has.places) holds.grouped;
      splits = holds.splits;
      footprints = has.footprints ∙ ap (λ fs. fs ++ footprint program candidate ∷ []) holds.footprints ∙ sym (map_push by before.claims.claims new) ∙ ap (map by) (sym has.claims);
      fitting = subst (AllByRecursion fitting) (sym has.claims) (Each-append fitting before.claims.claims (new ∷ []) holds.fitting (fits, tt));
      most = holds.most;
      room = room;
      spare = spare;
      born = subst (λ es. AllByRecursion (HasSize (sizes_of program.classes)) (born_in es)) (sym has.entries) holds.born;
    }

-- fields whose store has made room
pub record HasReserved (before : Inside) (store : Stored) : Type 0 where
  pub places : store.places ≡ before.store.places
  pub base : store.base ≡ before.store.base
  pub entries : store.entries ≡ before.store.entries
  pub next : store.next ≡ before.store.next
  pub room : FitsIn before.store.room store.room
  pub spare : before.store.spare ≤ store.spare

core_reserved : (before : Inside) (store : Stored) → HasReserved before store → core_in (record before { store = store }) ≡ core_in before
core_reserved before store has = λ i. record {
  program = before.program.value;
  base = has.base i;
  budget = before.budget;
  state = record {
    memory = at_places (came (has.base i) (has.entries i)) (has.places i);
    next = has.next i;
    fired = fired_in before.program.value (has.base i) (has.entries i);
    entries = has.entries i;
    halted = before.halted;
    refraction = (has.base i).refraction;
  };
  claims = before.claims.claims;
  given = before.claims.given;
  fault = before.fault;
}

pub HoldsKept-reserved : (before : Inside) (store : Stored) (standing : Standing) → HoldsKept before → HasReserved before store → standing ≡ before.claims → HoldsKept (record before { store = store; claims = standing })
HoldsKept-reserved before store standing holds has same =
    let all : HoldsKept (record before { store = store }) = record {
      kept = subst IsKept (sym (core_reserved before store has)) holds.kept;
      index = index_same before.store.base store.base before.store.entries store.entries before.index has.base has.entries holds.index;
      grouped = IsGrouping-later before.grouped before.store store (IsLater-same before.store store has.base has.entries has.places) holds.grouped;
      splits = holds.splits;
      footprints = holds.footprints;
      fitting = holds.fitting;
      most = holds.most;
      room = FitsIn-trans (room_times (length before.claims.claims) before.most) before.store.room store.room holds.room has.room;
      spare = omega (arith, holds.spare, has.spare);
      born = subst (λ es. AllByRecursion (HasSize (sizes_of before.program.value.classes)) (born_in es)) (sym has.entries) holds.born;
    } in
    subst (λ (claims : Standing). HoldsKept (record before { store = store; claims = claims })) (sym same) all
