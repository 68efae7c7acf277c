-- The fields hold the state after the step, which keeps a lawful core lawful.
use Rattle.std.proofs.Common.{◌≡◌, ◌||◌, [], true, None, Ok, Some, ap, is_none, rules, sym, subst}
use Rattle.rule_base.specs.declared.instantiation.Choice.{Choice}
use Rattle.rule_base.specs.Effect.{Effect}
use Rattle.rule_base.specs.Step.{effect_of, may_fire}
use Rattle.commit_journal.specs.declared.room.Room.{Room}
use Rattle.commit_journal.specs.Room.{FitsIn}
use Rattle.firing_core.specs.CoreState.{CoreState, ended}
use Rattle.firing_core.specs.CoreFields.{HoldsKept, core_in}
use Rattle.firing_core.specs.declared.machine.Core.TheInside.{Inside}
use Rattle.firing_core.specs.Firing.{Fires}
use Rattle.firing_core.proofs.ClaimLemmas.{IsGoing-ended}
use Rattle.firing_core.proofs.FireLemmas.{Fires-fired, HoldsKept-fired, IsCommitted, MayFireFields}
use Rattle.firing_core.proofs.machine.Core.fire.Goals as goal

pub commit-requires-clause-room : goal.commit-requires-clause-room
commit-requires-clause-room g c =
    subst (λ (room : Room). FitsIn room c.reserve.new.self.room) (c.for_effect.ensures c.reserve.new.self.next) c.in_ok-reserve.ensures.ok.0

-- the fields before, seen as a core
may_fields : (before : Inside) (k : CoreState) (c : Choice) (done : Effect) → core_in before ≡ k → HoldsKept before → k.claims ≡ [] → ended k ≡ None → may_fire k.program k.state c ≡ true → effect_of k.program k.state.memory c ≡ Some (Ok done) → MayFireFields before c done
may_fields before k c done view holds alone going may effect =
    let on = IsGoing-ended (core_in before) holds.kept.lawful (ap is_none (subst (λ (core : CoreState). ended core ≡ None) (sym view) going)) in
    record {
      holds = holds;
      alone = subst (λ (core : CoreState). core.claims ≡ []) (sym view) alone;
      unfailed = on.no_fault;
      within = on.within;
      may = subst (λ (core : CoreState). may_fire core.program core.state c ≡ true) (sym view) may;
      effect = subst (λ (core : CoreState). effect_of core.program core.state.memory c ≡ Some (Ok done)) (sym view) effect;
    }

pub invariant_of-self-2 : goal.invariant_of-self-2
invariant_of-self-2 g c =
    let before = c.self.inside in
    let choice = c.args.choice.now in
    let done = c.args.effect.now in
    let may = may_fields before c.args.self.now choice done c.self.view_is c.self.invariant c.requires.alone c.requires.going c.requires.may_fire c.requires.effect in
    let is : IsCommitted before.store c.reserve.new.self c.commit.new.self choice done = record { places = c.reserve.ensures.memory; same_base = c.reserve.ensures.base; same_entries = c.reserve.ensures.entries; same_next = c.reserve.ensures.next; memory = c.commit.ensures.memory; base = c.commit.ensures.base; entries = search rules; next = c.commit.ensures.next; later = c.commit.ensures.later } in
    let halts : c.if-self.self ≡ (before.halted || done.halts) = search rules in
    HoldsKept-fired before c.reserve.new.self c.commit.new.self c.if-self.self choice done may is halts

pub returns-clause-fires : goal.returns-clause-fires
returns-clause-fires g c =
    let before = c.self.inside in
    let choice = c.args.choice.now in
    let done = c.args.effect.now in
    let may = may_fields before c.args.self.now choice done c.self.view_is c.self.invariant c.requires.alone c.requires.going c.requires.may_fire c.requires.effect in
    let is : IsCommitted before.store c.reserve.new.self c.commit.new.self choice done = record { places = c.reserve.ensures.memory; same_base = c.reserve.ensures.base; same_entries = c.reserve.ensures.entries; same_next = c.reserve.ensures.next; memory = c.commit.ensures.memory; base = c.commit.ensures.base; entries = search rules; next = c.commit.ensures.next; later = c.commit.ensures.later } in
    let halts : c.if-self.self ≡ (before.halted || done.halts) = search rules in
    subst (λ (k : CoreState). Fires k (core_in (record before { store = c.commit.new.self; halted = c.if-self.self })) choice) c.self.view_is
    (Fires-fired before c.reserve.new.self c.commit.new.self c.if-self.self choice done may is halts)
