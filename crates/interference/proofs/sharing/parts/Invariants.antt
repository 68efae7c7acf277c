-- The parts so far.
use Rattle.std.proofs.Common.{◌≡◌, map}
use Rattle.std.specs.List.{range_with_len}
use Rattle.interference.specs.Parts.{part}
use Rattle.interference.proofs.sharing.parts.Given as goal

abbrev pub invariant-loop-number : goal.invariant-loop-number
invariant-loop-number l = l.all.items ≡ map (part l.rules l.n) (range_with_len 0 l.number)
