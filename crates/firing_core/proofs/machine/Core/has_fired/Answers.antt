-- The last firing of a choice that matches tells whether it is fired.
use Rattle.std.proofs.Common.{◌≡◌, Bool, true, subst, sym, ◌∙◌}
use Rattle.std.proofs.lemmas.Result.{IfOk-weaker}
use Rattle.rule_base.specs.declared.program.Program.{Program}
use Rattle.rule_base.specs.State.{has_fired}
use Rattle.rule_base.specs.Step.{matches}
use Rattle.refraction_index.proofs.StillFiredLemmas.{last_firing_tells}
use Rattle.firing_core.specs.CoreState.{CoreState}
use Rattle.firing_core.specs.CoreFields.{state_in}
use Rattle.firing_core.specs.Store.{memory_in}
use Rattle.firing_core.specs.Unfired.{is_fired_by}
use Rattle.firing_core.proofs.machine.Core.has_fired.Goals as goal

pub returns-clause-fired : goal.returns-clause-fired
returns-clause-fired c =
    let core = c.self.inside in
    let choice = c.args.choice.now in
    let lawful = c.self.invariant.kept.lawful in
    let told_by : Program → Bool → Type 0 = λ program is. is ≡ is_fired_by program core.store.base (memory_in core.store) core.store.entries choice in
    let matching : matches core.program.value (memory_in core.store) choice ≡ true = subst (λ (k : CoreState). matches k.program k.state.memory choice ≡ true) (sym c.self.view_is) c.requires in
    let tells = last_firing_tells core.program.value core.store.base (state_in core) choice lawful.sound lawful.began lawful.ran matching in
    IfOk-weaker c.is_fired.result (told_by c.deref.result.now) (λ is. is ≡ has_fired c.args.self.now.state choice)
    (λ is told. subst (λ (k : CoreState). is ≡ has_fired k.state choice) c.self.view_is (subst (λ program. told_by program is) c.deref.ensures told ∙ sym tells)) c.is_fired.ensures.told
