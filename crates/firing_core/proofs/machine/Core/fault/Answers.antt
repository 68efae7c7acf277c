-- What a firing for the claim comes to is the failure of its choice.
use Rattle.std.proofs.Common.{◌≡◌, Err, None, Some, rules, ap, sym, subst, ◌∙◌}
use Rattle.rule_base.specs.Effect.{Failure, effect}
use Rattle.rule_base.specs.Step.{effect_of}
use Rattle.rhs_actions.specs.Outcomes.{rule_at}
use Rattle.firing_core.specs.Answers.{commit_refusal}
use Rattle.firing_core.specs.CoreState.{CoreState}
use Rattle.firing_core.proofs.GrantLemmas.{effect_of-let_in}
use Rattle.firing_core.proofs.machine.Core.fault.Goals as goal

pub keep_fault-requires-clause-fails : goal.keep_fault-requires-clause-fails
keep_fault-requires-clause-fails c =
    let k = c.args.self.now in
    let failed = c.args.failed in
    let failure : Failure = record { action = c.action.result; cause = c.cause.result } in
    let none : commit_refusal k c.args.grant failed.rule failed.elements ≡ None = search rules in
    let told : Failure = record { action = failed.action; cause = failed.cause } in
    let told_is : told ≡ failure = λ i. record { action = sym c.action.ensures.value i; cause = sym c.cause.ensures i } in
    let comes : effect (rule_at failed.program failed.rule) failed.elements ≡ Err failure = c.action.ensures.is.is ∙ ap (λ f. Err f) told_is in
    let same : k ≡ c.turn_away.new.self = search rules in
    subst (λ (core : CoreState). effect_of core.program core.state.memory c.args.grant.candidate.choice ≡ Some (Err failure)) same
    (effect_of-let_in k c.args.grant failed.program failed.rule failed.elements (Err failure) c.turn_away.ensures.lawful c.requires.program none c.action.ensures.is.there comes)
