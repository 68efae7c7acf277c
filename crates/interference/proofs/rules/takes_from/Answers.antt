-- Action by action.
use Rattle.std.proofs.Common.{Bool, List, sym, ◌∙◌, ap}
use Rattle.std.specs.List.{list_any}
use Rattle.rule_base.specs.declared.condition.Cond.{Cond}
use Rattle.rule_base.specs.declared.action.Action.{Action}
use Rattle.interference.specs.Footprint.{designators}
use Rattle.interference.specs.Finding.{takes_at}
use Rattle.interference.proofs.RuleLemmas.{takes_from-actions}
use Rattle.interference.proofs.rules.takes_from.Goals as goal

abbrev takes : List Action → List Cond → List Cond → Bool
takes actions conds others = list_any (λ (a : Action). list_any (takes_at conds others) (designators a)) actions

pub returns : goal.returns
returns c =
    let one = c.args.one.now in
    c.any_takes.ensures
    ∙ ap (λ actions. takes actions c.as_slice-2.result.now c.as_slice-3.result.now) c.as_slice.ensures
    ∙ ap (λ conds. takes one.actions conds c.as_slice-3.result.now) c.as_slice-2.ensures
    ∙ ap (takes one.actions one.conds) c.as_slice-3.ensures
    ∙ sym (takes_from-actions one c.args.other.now)
