-- The condition elements that are left add the rest.
use Rattle.std.proofs.Common.{◌≡◌, drop, flat_map}
use Rattle.rule_base.specs.declared.lock.Mode.TheVariants.{Watch}
use Rattle.interference.specs.Footprint.{in_mode}
use Rattle.interference.specs.Finding.{with_demands}
use Rattle.interference.specs.Given.{negated}
use Rattle.interference.specs.Regions.{watched_regions}
use Rattle.interference.proofs.demands.demand_negated.Given as goal

abbrev pub invariant-loop-cond : goal.invariant-loop-cond
invariant-loop-cond l = with_demands l.fn.out.items (in_mode Watch (flat_map (watched_regions l.splits l.rule l.elements) (negated l.rule.conds))) ≡ with_demands l.out.items (in_mode Watch (flat_map (watched_regions l.splits l.rule l.elements) (negated (drop l.cond-index l.rule.conds))))
