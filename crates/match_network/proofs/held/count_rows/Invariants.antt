-- The first levels are counted.
use Rattle.std.proofs.Common.{◌≡◌, ◌-◌, ◌^◌, min, take}
use Rattle.match_network.specs.Held.{rows_filed}
use Rattle.match_network.proofs.held.count_rows.Given as goal

abbrev pub invariant-loop-number : goal.invariant-loop-number
invariant-loop-number l = l.count ≡ min (rows_filed (take l.number l.levels)) (2 ^ 64 - 1)
