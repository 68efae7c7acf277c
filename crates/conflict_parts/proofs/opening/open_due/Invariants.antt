-- The rules of those who were due so far.
use Rattle.std.proofs.Common.{◌≡◌, ℕ, take, true}
use Rattle.std.specs.List.{list_any}
use Rattle.match_network.specs.Touched.{is_of}
use Rattle.conflict_parts.specs.Change.{HasOpened, IsCovered}
use Rattle.conflict_parts.proofs.opening.open_due.Given as goal

abbrev pub invariant-loop-asker : goal.invariant-loop-asker
invariant-loop-asker l = record {
  opened : HasOpened l.network.rules l.fn.standings l.fn.queue.items l.standings l.queue.items;
  all : (rule : ℕ) → list_any (is_of rule) (take l.asker-index l.due) ≡ true → IsCovered l.network.rules l.standings rule;
}
