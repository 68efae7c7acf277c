-- The actions that are left add the rest.
use Rattle.std.proofs.Common.{◌≡◌, drop, flat_map}
use Rattle.rule_base.specs.declared.lock.Mode.TheVariants.{Grow}
use Rattle.interference.specs.Footprint.{in_mode}
use Rattle.interference.specs.Finding.{with_demands}
use Rattle.interference.specs.Regions.{grown_regions}
use Rattle.interference.proofs.demands.demand_made.Given as goal

abbrev pub invariant-loop-action : goal.invariant-loop-action
invariant-loop-action l = with_demands l.fn.out.items (in_mode Grow (flat_map (grown_regions l.splits l.rule l.elements) l.rule.actions)) ≡ with_demands l.out.items (in_mode Grow (flat_map (grown_regions l.splits l.rule l.elements) (drop l.action-index l.rule.actions)))
