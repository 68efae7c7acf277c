-- None of the elements so far is accepted, and the row is as before.
use Rattle.std.proofs.Common.{◌≡◌, false, take}
use Rattle.rule_base.specs.Match.{accepts_some}
use Rattle.commit_journal.specs.EntryViews.{born_of}
use Rattle.firing_core.proofs.fired.accepts_born_of.Given as goal

abbrev pub invariant-loop-number : goal.invariant-loop-number
invariant-loop-number l = record {
  none : accepts_some l.cond l.initial.binds (take l.number (born_of l.entry)) ≡ false;
  kept : l.binds ≡ l.initial.binds;
}
