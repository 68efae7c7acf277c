-- The rules so far.
use Rattle.std.proofs.Common.{◌≡◌, ◌==◌, ◌%◌}
use Rattle.std.specs.List.{filter, range_with_len}
use Rattle.interference.proofs.sharing.part.Given as goal

abbrev pub invariant-loop-rule : goal.invariant-loop-rule
invariant-loop-rule l = l.found ≡ filter (λ rule. rule % l.n == l.number) (range_with_len 0 l.rule)
