-- The first rules are counted.
use Rattle.std.proofs.Common.{◌≡◌, ◌-◌, ◌^◌, min, take}
use Rattle.match_network.specs.Held.{all_rows}
use Rattle.match_network.proofs.held.count_all_rows.Given as goal

abbrev pub invariant-loop-number : goal.invariant-loop-number
invariant-loop-number l = l.count ≡ min (all_rows (take l.number l.rules)) (2 ^ 64 - 1)
