-- So many rules so far.
use Rattle.std.proofs.Common.{◌≡◌, [], replicate}
use Rattle.conflict_parts.proofs.standing.Standings.new.Given as goal

abbrev pub invariant-loop : goal.invariant-loop
invariant-loop l = l.all.items ≡ replicate l.counter []
