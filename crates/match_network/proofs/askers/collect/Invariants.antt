-- The stores that are left give the rest.
use Rattle.std.proofs.Common.{◌≡◌, ◌++◌, drop}
use Rattle.std.specs.List.{flat_map}
use Rattle.match_network.specs.Rules.{askers_at}
use Rattle.match_network.proofs.askers.collect.Given as goal

abbrev pub invariant-loop-store : goal.invariant-loop-store
invariant-loop-store l = l.due.items ++ flat_map (askers_at l.askers) (drop l.store-index l.stores) ≡ l.fn.due.items ++ flat_map (askers_at l.askers) l.stores
