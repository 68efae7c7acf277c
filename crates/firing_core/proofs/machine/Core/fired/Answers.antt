-- What is told of the fields is told of the core that they hold.
use Rattle.std.proofs.Common.{◌≡◌, List, subst, sym, ◌∙◌}
use Rattle.std.proofs.lemmas.Result.{IfOk-weaker}
use Rattle.std.specs.List.{list_any}
use Rattle.rule_base.specs.declared.instantiation.Choice.{Choice}
use Rattle.rule_base.specs.declared.program.Program.{Program}
use Rattle.rule_base.specs.State.{has_fired, same_choice}
use Rattle.firing_core.specs.CoreFields.{state_in}
use Rattle.firing_core.specs.CoreState.{CoreState}
use Rattle.firing_core.specs.FiredChoices.{is_fired_now}
use Rattle.firing_core.specs.Store.{memory_in}
use Rattle.firing_core.proofs.FiredChoiceLemmas.{has_fired-now}
use Rattle.firing_core.proofs.machine.Core.fired.Goals as goal

pub returns-clause-fired : goal.returns-clause-fired
returns-clause-fired c =
    let core = c.self.inside in
    let kept = c.self.invariant.kept in
    let lawful = kept.lawful in
    let told_by : Program → List Choice → Type 0 = λ program choices. (d : Choice) → list_any (same_choice d) choices ≡ is_fired_now program core.store.base (memory_in core.store) core.store.entries d in
    IfOk-weaker c.all_fired.result (told_by c.deref.result.now) (λ choices. (d : Choice) → list_any (same_choice d) choices ≡ has_fired c.args.self.now.state d)
    (λ choices told d.
    let now = has_fired-now core.program.value core.store.base (state_in core) d lawful.sound lawful.began lawful.ran kept.state.elements.rising in
    subst (λ (k : CoreState). list_any (same_choice d) choices ≡ has_fired k.state d) c.self.view_is (subst (λ program. told_by program choices) c.deref.ensures told d ∙ sym now)) c.all_fired.ensures.fired
