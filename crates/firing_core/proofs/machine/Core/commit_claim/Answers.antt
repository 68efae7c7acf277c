-- The claim's room is enough, and the fields are those after its commit.
use Rattle.std.proofs.Common.{◌≡◌, None, Ok, Some, is_some, rules, sym, subst, true, ap, ◌∙◌}
use Rattle.rule_base.specs.declared.instantiation.Choice.{Choice}
use Rattle.rule_base.specs.Effect.{Effect, removed_tags}
use Rattle.rule_base.specs.Step.{born, effect_of}
use Rattle.commit_journal.specs.Room.{FitsIn, room_for}
use Rattle.firing_core.specs.Answers.{claim_of}
use Rattle.firing_core.specs.CoreFields.{HoldsKept, core_in}
use Rattle.firing_core.specs.CoreState.{CoreState, ended}
use Rattle.firing_core.specs.declared.claims.Event.TheVariants as event
use Rattle.firing_core.specs.declared.machine.Core.TheInside.{Inside}
use Rattle.firing_core.specs.Events.{apply}
use Rattle.firing_core.specs.Grants.{Granted}
use Rattle.firing_core.proofs.CommitClaimLemmas.{HasCommitted, HoldsKept-committed, MayCommit, after_commit_is, has_room, has_spare}
use Rattle.firing_core.proofs.GrantLemmas.{StandsFor-some}
use Rattle.firing_core.proofs.machine.Core.commit_claim.Goals as goal

-- the fields before, seen as a core
may_fields : (before : Inside) (k : CoreState) (grant : Granted) (done : Effect) → core_in before ≡ k → HoldsKept before → ended k ≡ None → is_some (claim_of k grant) ≡ true → effect_of k.program k.state.memory grant.candidate.choice ≡ Some (Ok done) → MayCommit before grant done
may_fields before k grant done view holds going stands effect = record {
  holds = holds;
  going = subst (λ (core : CoreState). ended core ≡ None) (sym view) going;
  stands = StandsFor-some (core_in before) grant (subst (λ (core : CoreState). is_some (claim_of core grant) ≡ true) (sym view) stands);
  effect = subst (λ (core : CoreState). effect_of core.program core.state.memory grant.candidate.choice ≡ Some (Ok done)) (sym view) effect;
}

pub commit-requires-clause-room : goal.commit-requires-clause-room
commit-requires-clause-room g c =
    let may = may_fields c.self.inside c.args.self.now c.args.grant.now c.args.effect.now c.self.view_is c.self.invariant c.requires.going c.requires.stands c.requires.effect in
    let tags : c.as_slice.result.now ≡ c.args.grant.now.candidate.choice.tags = c.as_slice.ensures ∙ ap (λ (d : Choice). d.tags) c.choice-choice.ensures in
    subst (λ tags. FitsIn (room_for tags (removed_tags c.args.effect.now.changes) (born c.self.inside.store.next c.args.effect.now.changes) c.args.effect.now.pieces) c.self.inside.store.room) (sym tags)
    (has_room c.self.inside c.args.grant.now c.args.effect.now may)

pub commit-requires-clause-spare : goal.commit-requires-clause-spare
commit-requires-clause-spare g c =
    has_spare c.self.inside c.args.grant.now c.args.effect.now
    (may_fields c.self.inside c.args.self.now c.args.grant.now c.args.effect.now c.self.view_is c.self.invariant c.requires.going c.requires.stands c.requires.effect)

pub invariant_of-self : goal.invariant_of-self
invariant_of-self g c =
    let before = c.self.inside in
    let may = may_fields before c.args.self.now c.args.grant.now c.args.effect.now c.self.view_is c.self.invariant c.requires.going c.requires.stands c.requires.effect in
    let has : HasCommitted before c.commit.new.self c.remove.new.self c.args.grant.now c.args.effect.now = record {
      base = c.commit.ensures.base;
      memory = c.commit.ensures.memory;
      entries = search rules;
      next = c.commit.ensures.next;
      room = search rules;
      spare = c.commit.ensures.spare;
      later = c.commit.ensures.later;
      gone = record { claims = search rules; footprints = search rules; given = c.remove.ensures.given };
    } in
    subst (λ halted. HoldsKept (record before { store = c.commit.new.self; halted = halted; claims = c.remove.new.self })) (sym c.halts-self-inside.ensures)
    (HoldsKept-committed before c.commit.new.self c.remove.new.self c.args.grant.now c.args.effect.now may has)

pub returns-clause-after : goal.returns-clause-after
returns-clause-after g c =
    let before = c.self.inside in
    let may = may_fields before c.args.self.now c.args.grant.now c.args.effect.now c.self.view_is c.self.invariant c.requires.going c.requires.stands c.requires.effect in
    let has : HasCommitted before c.commit.new.self c.remove.new.self c.args.grant.now c.args.effect.now = record {
      base = c.commit.ensures.base;
      memory = c.commit.ensures.memory;
      entries = search rules;
      next = c.commit.ensures.next;
      room = search rules;
      spare = c.commit.ensures.spare;
      later = c.commit.ensures.later;
      gone = record { claims = search rules; footprints = search rules; given = c.remove.ensures.given };
    } in
    subst (λ (k : CoreState). apply k (event.Committed c.args.grant.now.number) ≡ Some (core_in (record before { store = c.commit.new.self; halted = c.halts-self-inside.result; claims = c.remove.new.self }))) c.self.view_is
    (subst (λ halted. apply (core_in before) (event.Committed c.args.grant.now.number) ≡ Some (core_in (record before { store = c.commit.new.self; halted = halted; claims = c.remove.new.self }))) (sym c.halts-self-inside.ensures)
    (after_commit_is before c.commit.new.self c.remove.new.self c.args.grant.now c.args.effect.now may has))
