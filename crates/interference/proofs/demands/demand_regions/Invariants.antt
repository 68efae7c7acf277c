-- The numbers that are left add the rest.
use Rattle.std.proofs.Common.{◌≡◌, drop, map}
use Rattle.interference.specs.Footprint.{in_mode}
use Rattle.interference.specs.Finding.{with_demands}
use Rattle.interference.specs.Locks.{every_region, region}
use Rattle.interference.proofs.demands.demand_regions.Given as goal

abbrev pub invariant-loop-number : goal.invariant-loop-number
invariant-loop-number l = with_demands l.fn.out.items (in_mode l.mode (map (region l.class) every_region)) ≡ with_demands l.out.items (in_mode l.mode (map (region l.class) (drop l.number every_region)))
