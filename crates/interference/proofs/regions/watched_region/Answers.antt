-- The class has a split.
use Rattle.std.proofs.Common.{sym, ◌∙◌, ap}
use Rattle.interference.specs.Regions.{pinned_value, regions_by, regions_of_value}
use Rattle.interference.proofs.regions.watched_region.Goals as goal

pub returns-in-Some-clause-region : goal.returns-in-Some-clause-region
returns-in-Some-clause-region c =
    let pinned = pinned_value c.args.rule.now.conds c.args.elements.now c.args.cond.now in
    c.region_of_value.ensures.region
    ∙ ap regions_of_value (c.pinned_value.ensures ∙ ap (λ conds. pinned_value conds c.args.elements.now c.args.cond.now c.in-Some.attr) c.as_slice.ensures)
    ∙ ap (λ split. regions_by split pinned) (sym c.in-Some.is ∙ c.of.ensures)
