-- The tags so far, and those of the places that are left, are all.
use Rattle.std.proofs.Common.{◌≡◌, ◌++◌, drop}
use Rattle.match_network.specs.Full.{tags_at}
use Rattle.firing_workers.proofs.prepared.add_tags.Given as goal

abbrev pub invariant-loop-place : goal.invariant-loop-place
invariant-loop-place l =
    l.tags.items ++ tags_at l.part.network.arrivals.came (drop l.place-index l.row) ≡ l.initial.tags.items ++ tags_at l.part.network.arrivals.came l.row
