-- The rules so far.
use Rattle.std.proofs.Common.{◌<◌, ℕ}
use Rattle.conflict_parts.specs.Change.{HasOpened, IsCovered}
use Rattle.conflict_parts.proofs.opening.open_all.Given as goal

abbrev pub invariant-loop-rule : goal.invariant-loop-rule
invariant-loop-rule l = record {
  opened : HasOpened l.network.rules l.fn.standings l.fn.queue.items l.standings l.queue.items;
  all : (rule : ℕ) → rule < l.rule → IsCovered l.network.rules l.standings rule;
}
