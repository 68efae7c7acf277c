-- The rule of the choice accepts its elements, and what comes of it comes of the choice.
use Rattle.std.proofs.Common.{◌≡◌, true, Ok, IsSome, Some, slice_get, rules, sym, subst}
use Rattle.std.proofs.lemmas.Result.{IfErr-weaker, IfOk-weaker}
use Rattle.rule_base.specs.Memory.{elements_at}
use Rattle.rule_base.specs.Effect.{effect}
use Rattle.rule_base.specs.ElementMatch.{bindings_with}
use Rattle.rule_base.specs.Step.{effect_of, matches}
use Rattle.rhs_actions.specs.Refusals.{TellsFailure}
use Rattle.firing_core.specs.CoreState.{CoreState}
use Rattle.firing_core.specs.CoreFields.{core_in}
use Rattle.firing_core.specs.Firing.{TellsFault}
use Rattle.firing_core.proofs.CommitLemmas.{HasMatch-matches, TellsFault-rule, effect_of-rule, has_read, rule_read}
use Rattle.firing_core.proofs.machine.Core.evaluate.Goals as goal

pub fire_into-requires-clause-accepted : goal.fire_into-requires-clause-accepted
fire_into-requires-clause-accepted c =
    let k = core_in c.self.inside in
    let choice = c.args.choice.now in
    let rule = c.index-as_slice-choice.result in
    let matching : matches k.program k.state.memory choice ≡ true = subst (λ (core : CoreState). matches core.program core.state.memory choice ≡ true) (sym c.self.view_is) c.requires in
    let has = HasMatch-matches k.program k.state.memory choice matching in
    let at : slice_get k.program.rules choice.rule ≡ Some rule = rule_read k.program k.state.memory choice rule has (search rules) in
    let laid : c.lay_out.new.self.elements ≡ elements_at k.state.memory choice.tags = search rules in
    subst (λ elements. IsSome (bindings_with rule elements)) (sym laid) (has_read k.program k.state.memory choice rule has at)

pub returns-clause-ok : goal.returns-clause-ok
returns-clause-ok c =
    let k = core_in c.self.inside in
    let choice = c.args.choice.now in
    let rule = c.index-as_slice-choice.result in
    let matching : matches k.program k.state.memory choice ≡ true = subst (λ (core : CoreState). matches core.program core.state.memory choice ≡ true) (sym c.self.view_is) c.requires in
    let has = HasMatch-matches k.program k.state.memory choice matching in
    let at : slice_get k.program.rules choice.rule ≡ Some rule = rule_read k.program k.state.memory choice rule has (search rules) in
    let laid : c.lay_out.new.self.elements ≡ elements_at k.state.memory choice.tags = search rules in
    IfOk-weaker c.fire_into.result (λ _. effect rule c.lay_out.new.self.elements ≡ Ok c.fire_into.new.done) (λ _. effect_of c.args.self.now.program c.args.self.now.state.memory choice ≡ Some (Ok c.fire_into.new.done))
    (λ _ is. subst (λ (core : CoreState). effect_of core.program core.state.memory choice ≡ Some (Ok c.fire_into.new.done)) c.self.view_is
    (effect_of-rule k.program k.state.memory choice rule (Ok c.fire_into.new.done) at (subst (λ elements. effect rule elements ≡ Ok c.fire_into.new.done) laid is))) c.fire_into.ensures.ok

pub returns-clause-failed : goal.returns-clause-failed
returns-clause-failed c =
    let k = core_in c.self.inside in
    let choice = c.args.choice.now in
    let rule = c.index-as_slice-choice.result in
    let matching : matches k.program k.state.memory choice ≡ true = subst (λ (core : CoreState). matches core.program core.state.memory choice ≡ true) (sym c.self.view_is) c.requires in
    let has = HasMatch-matches k.program k.state.memory choice matching in
    let at : slice_get k.program.rules choice.rule ≡ Some rule = rule_read k.program k.state.memory choice rule has (search rules) in
    let laid : c.lay_out.new.self.elements ≡ elements_at k.state.memory choice.tags = search rules in
    IfErr-weaker c.fire_into.result (TellsFailure (effect rule c.lay_out.new.self.elements)) (TellsFault (effect_of c.args.self.now.program c.args.self.now.state.memory choice))
    (λ refusal tells. subst (λ (core : CoreState). TellsFault (effect_of core.program core.state.memory choice) refusal) c.self.view_is
    (TellsFault-rule k.program k.state.memory choice rule refusal at (subst (λ elements. TellsFailure (effect rule elements) refusal) laid tells))) c.fire_into.ensures.failed
