-- The tags that are left add the rest.
use Rattle.std.proofs.Common.{◌≡◌, drop}
use Rattle.interference.specs.Footprint.{matched_demands}
use Rattle.interference.specs.Finding.{with_demands}
use Rattle.interference.proofs.demands.demand_matched.Given as goal

abbrev pub invariant-loop-tag : goal.invariant-loop-tag
invariant-loop-tag l = with_demands l.fn.out.items (matched_demands l.tags) ≡ with_demands l.out.items (matched_demands (drop l.tag-index l.tags))
