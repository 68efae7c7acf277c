-- What a firing for the claim comes to is the effect of its choice.
use Rattle.std.proofs.Common.{◌≡◌, None, Ok, Some, rules, ap, sym, subst, ◌∙◌}
use Rattle.rule_base.specs.Effect.{effect}
use Rattle.rule_base.specs.Step.{effect_of}
use Rattle.rhs_actions.specs.Outcomes.{rule_at}
use Rattle.firing_core.specs.Answers.{commit_refusal}
use Rattle.firing_core.specs.CoreState.{CoreState}
use Rattle.firing_core.proofs.GrantLemmas.{effect_of-let_in}
use Rattle.firing_core.proofs.machine.Core.commit.Goals as goal

pub commit_claim-requires-clause-effect : goal.commit_claim-requires-clause-effect
commit_claim-requires-clause-effect g c =
    let k = c.args.self.now in
    let delta = c.args.delta in
    let none : commit_refusal k c.args.grant delta.rule delta.elements ≡ None = search rules in
    let comes : effect (rule_at delta.program delta.rule) delta.elements ≡ Ok c.effect.result.now = c.effect.ensures.is.is ∙ ap (λ done. Ok done) (sym c.effect.ensures.value) in
    let same : k ≡ c.turn_away.new.self = search rules in
    subst (λ (core : CoreState). effect_of core.program core.state.memory c.args.grant.candidate.choice ≡ Some (Ok c.effect.result.now)) same
    (effect_of-let_in k c.args.grant delta.program delta.rule delta.elements (Ok c.effect.result.now) c.turn_away.ensures.lawful c.requires.program none c.effect.ensures.is.there comes)
