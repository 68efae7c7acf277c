-- The fields are those after the failure of the claim's firing.
use Rattle.std.proofs.Common.{◌≡◌, Err, None, Some, is_some, rules, sym, subst, true}
use Rattle.rule_base.specs.declared.instantiation.Choice.{Choice}
use Rattle.rule_base.specs.Effect.{Failure}
use Rattle.rule_base.specs.Step.{effect_of}
use Rattle.firing_core.specs.Answers.{claim_of}
use Rattle.firing_core.specs.CoreFields.{HoldsKept, core_in}
use Rattle.firing_core.specs.CoreState.{CoreState, ended}
use Rattle.firing_core.specs.declared.claims.Event.TheVariants as event
use Rattle.firing_core.specs.declared.claims.FaultSeen.{FaultSeen}
use Rattle.firing_core.specs.declared.machine.Core.TheInside.{Inside}
use Rattle.firing_core.specs.Events.{apply}
use Rattle.firing_core.specs.Grants.{Granted}
use Rattle.firing_core.proofs.FaultClaimLemmas.{HoldsKept-faulted, MayFail, after_fault_is}
use Rattle.firing_core.proofs.GrantLemmas.{StandsFor-some}
use Rattle.firing_core.proofs.KeptLemmas.{IsWithout}
use Rattle.firing_core.proofs.machine.Core.keep_fault.Goals as goal

-- the fields before, seen as a core
may_fields : (before : Inside) (k : CoreState) (grant : Granted) (failure : Failure) → core_in before ≡ k → HoldsKept before → ended k ≡ None → is_some (claim_of k grant) ≡ true → effect_of k.program k.state.memory grant.candidate.choice ≡ Some (Err failure) → MayFail before grant failure
may_fields before k grant failure view holds going stands fails = record {
  holds = holds;
  going = subst (λ (core : CoreState). ended core ≡ None) (sym view) going;
  stands = StandsFor-some (core_in before) grant (subst (λ (core : CoreState). is_some (claim_of core grant) ≡ true) (sym view) stands);
  fails = subst (λ (core : CoreState). effect_of core.program core.state.memory grant.candidate.choice ≡ Some (Err failure)) (sym view) fails;
}

pub invariant_of-self : goal.invariant_of-self
invariant_of-self c =
    let before = c.self.inside in
    let grant = c.args.grant in
    let failure : Failure = record { action = c.args.action; cause = c.args.cause } in
    let may = may_fields before c.args.self.now grant failure c.self.view_is c.self.invariant c.requires.going c.requires.stands c.requires.fails in
    let is : IsWithout before.claims c.remove.new.self grant.number = record { claims = search rules; footprints = search rules; given = c.remove.ensures.given } in
    let seen : Choice → FaultSeen = λ choice. record { choice = choice; action = c.args.action; cause = c.args.cause } in
    subst (λ choice. HoldsKept (record before { claims = c.remove.new.self; fault = Some (seen choice) })) (sym c.into_choice.ensures)
    (HoldsKept-faulted before c.remove.new.self grant failure may is)

pub returns : goal.returns
returns c =
    let before = c.self.inside in
    let grant = c.args.grant in
    let failure : Failure = record { action = c.args.action; cause = c.args.cause } in
    let may = may_fields before c.args.self.now grant failure c.self.view_is c.self.invariant c.requires.going c.requires.stands c.requires.fails in
    let is : IsWithout before.claims c.remove.new.self grant.number = record { claims = search rules; footprints = search rules; given = c.remove.ensures.given } in
    let seen : Choice → FaultSeen = λ choice. record { choice = choice; action = c.args.action; cause = c.args.cause } in
    subst (λ (k : CoreState). apply k (event.Faulted grant.number) ≡ Some (core_in (record before { claims = c.remove.new.self; fault = Some (seen c.into_choice.result) }))) c.self.view_is
    (subst (λ choice. apply (core_in before) (event.Faulted grant.number) ≡ Some (core_in (record before { claims = c.remove.new.self; fault = Some (seen choice) }))) (sym c.into_choice.ensures)
    (after_fault_is before c.remove.new.self grant failure may is))
