-- The places so far, each behind.
use Rattle.std.proofs.Common.{◌≡◌, map, take}
use Rattle.rule_base.specs.Places.{moved_by}
use Rattle.rule_base.proofs.elements.moved_by.Given as goal

abbrev pub invariant-loop-place : goal.invariant-loop-place
invariant-loop-place l = l.moved.items ≡ map (moved_by l.by) (take l.place-index l.places)
