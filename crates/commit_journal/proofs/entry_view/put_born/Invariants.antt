-- The elements so far.
use Rattle.std.proofs.Common.{◌≡◌, ◌++◌, map, take}
use Rattle.rule_base.specs.declared.change.Tagged.TheVariants.{Born}
use Rattle.commit_journal.specs.EntryViews.{born_of}
use Rattle.commit_journal.proofs.entry_view.put_born.Given as goal

abbrev pub invariant-loop-number : goal.invariant-loop-number
invariant-loop-number l = l.changes ≡ l.fn.changes ++ map Born (take l.number (born_of l.view))
