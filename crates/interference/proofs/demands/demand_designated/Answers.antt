-- One action more.
use Rattle.std.proofs.Common.{◌+◌, drop, flat_map, sym, ◌∙◌, ap}
use Rattle.rule_base.specs.declared.lock.Mode.TheVariants.{Own}
use Rattle.interference.specs.Footprint.{designators, in_mode}
use Rattle.interference.specs.Finding.{designated_locks, with_demands}
use Rattle.interference.proofs.FindingLemmas.{drop_item}
use Rattle.interference.proofs.DemandCodeLemmas.{designated_locks-append, with_demands-in_mode}
use Rattle.interference.proofs.demands.demand_designated.Goals as goal

pub loop-action-preserved : goal.loop-action-preserved
loop-action-preserved c =
    let first = c.action-item.result in
    let tags = c.args.tags.now in
    let out = c.loop-action.out.items in
    let rest = drop (c.loop-action.action-index + 1) c.args.actions.now in
    c.loop-action.invariant
    ∙ ap (λ actions. with_demands out (in_mode Own (designated_locks tags (flat_map designators actions)))) (drop_item c.args.actions.now c.loop-action.action-index first c.loop-action-test.true c.action-item.is)
    ∙ ap (λ locks. with_demands out (in_mode Own locks)) (designated_locks-append tags (designators first) (flat_map designators rest))
    ∙ with_demands-in_mode out Own (designated_locks tags (designators first)) (designated_locks tags (flat_map designators rest))
    ∙ ap (λ footprint. with_demands footprint (in_mode Own (designated_locks tags (flat_map designators rest)))) (sym c.in_ok-demand_designators.ensures)
