-- What stands at the place of the designator says which regions.
use Rattle.std.proofs.Common.{◌≡◌, ◌≤◌, List, ℕ, None, Some, OnOk, length, map, slice_get, sym, ◌∙◌, ap, arith, subst}
use Rattle.std.specs.Option.{option_copied}
use Rattle.rule_base.specs.Views.{element_in}
use Rattle.rule_base.specs.declared.lock.Mode.TheVariants.{Grow}
use Rattle.interference.specs.Locks.{region}
use Rattle.interference.specs.Given.{positive}
use Rattle.interference.specs.Footprint.{in_mode}
use Rattle.interference.specs.Finding.{with_demands}
use Rattle.interference.proofs.DemandCodeLemmas.{few_classes-at, grown-at, grown-nowhere, grown-past}
use Rattle.interference.proofs.demands.demand_modify.Goals as goal

pub returns-then-place-len : goal.returns-then-place-len
returns-then-place-len c =
    let past : length c.args.elements.now ≤ c.args.at = omega (arith, c.if-place-len.true, c.len.ensures) in
    ap (λ locks. with_demands c.args.out.now.items (in_mode Grow locks)) (sym (grown-past c.args.splits.now c.args.rule.now c.args.elements.now c.args.at c.args.sets.now past))

pub returns-in_default : goal.returns-in_default
returns-in_default c =
    let none : slice_get (positive c.args.rule.now.conds) c.args.at ≡ None = ap (λ conds. slice_get (positive conds) c.args.at) (sym c.as_slice.ensures) ∙ sym c.positive_at.ensures ∙ ap option_copied c.in_default.is in
    ap (λ locks. with_demands c.args.out.now.items (in_mode Grow locks)) (sym (grown-nowhere c.args.splits.now c.args.rule.now c.args.elements.now c.args.at c.args.sets.now none))

pub demand_regions-requires-clause-class : goal.demand_regions-requires-clause-class
demand_regions-requires-clause-class c =
    let at : slice_get (positive c.args.rule.now.conds) c.args.at ≡ Some c.in-Some.cond.now = ap (λ conds. slice_get (positive conds) c.args.at) (sym c.as_slice.ensures) ∙ sym c.positive_at.ensures ∙ ap option_copied c.in-Some.is in
    few_classes-at c.args.rule.now.conds c.args.at c.in-Some.cond.now c.requires.conds at

pub returns : goal.returns
returns c =
    let at : slice_get (positive c.args.rule.now.conds) c.args.at ≡ Some c.in-Some.cond.now = ap (λ conds. slice_get (positive conds) c.args.at) (sym c.as_slice.ensures) ∙ sym c.positive_at.ensures ∙ ap option_copied c.in-Some.is in
    let grown = grown-at c.args.splits.now c.args.rule.now c.args.elements.now c.args.at c.args.sets.now c.in-Some.cond.now (element_in c.at.result) at c.at.ensures in
    subst (λ (locks : List ℕ). OnOk c.demand_regions.result (c.demand_regions.new.out.items ≡ with_demands c.args.out.now.items (in_mode Grow locks)))
    (ap (map (region c.in-Some.cond.now.class)) c.remade_region-region.ensures.region ∙ sym grown) c.demand_regions.ensures
