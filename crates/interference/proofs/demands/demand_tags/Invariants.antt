-- The designators that are left add the rest.
use Rattle.std.proofs.Common.{◌≡◌, drop}
use Rattle.rule_base.specs.declared.lock.Mode.TheVariants.{Own}
use Rattle.interference.specs.Footprint.{in_mode}
use Rattle.interference.specs.Finding.{designated_locks, with_demands}
use Rattle.interference.proofs.demands.demand_tags.Given as goal

abbrev pub invariant-loop-designator : goal.invariant-loop-designator
invariant-loop-designator l = with_demands l.fn.out.items (in_mode Own (designated_locks l.tags l.designators)) ≡ with_demands l.out.items (in_mode Own (designated_locks l.tags (drop l.designator-index l.designators)))
