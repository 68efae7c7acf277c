-- The tags so far.
use Rattle.std.proofs.Common.{◌≡◌, ◌++◌, map, take}
use Rattle.rule_base.specs.declared.change.Tagged.TheVariants.{Gone}
use Rattle.commit_journal.proofs.entry_view.put_gone.Given as goal

abbrev pub invariant-loop-tag : goal.invariant-loop-tag
invariant-loop-tag l = l.changes ≡ l.fn.changes ++ map Gone (take l.tag-index l.gone)
