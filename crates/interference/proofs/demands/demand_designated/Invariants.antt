-- The actions that are left add the rest.
use Rattle.std.proofs.Common.{◌≡◌, drop, flat_map}
use Rattle.rule_base.specs.declared.lock.Mode.TheVariants.{Own}
use Rattle.interference.specs.Footprint.{designators, in_mode}
use Rattle.interference.specs.Finding.{designated_locks, with_demands}
use Rattle.interference.proofs.demands.demand_designated.Given as goal

abbrev pub invariant-loop-action : goal.invariant-loop-action
invariant-loop-action l = with_demands l.fn.out.items (in_mode Own (designated_locks l.tags (flat_map designators l.actions))) ≡ with_demands l.out.items (in_mode Own (designated_locks l.tags (flat_map designators (drop l.action-index l.actions))))
