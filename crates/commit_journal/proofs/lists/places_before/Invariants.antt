-- The places so far.
use Rattle.std.proofs.Common.{◌≡◌, ◌-◌, map, take}
use Rattle.commit_journal.proofs.lists.places_before.Given as goal

abbrev pub invariant-loop-place : goal.invariant-loop-place
invariant-loop-place l = l.before.items ≡ map (λ place. place - l.by) (take l.place-index l.places)
