-- None of what was born so far is accepted, what is left may be asked for, and the row is as before.
use Rattle.std.proofs.Common.{◌≡◌, drop}
use Rattle.rule_base.specs.Match.{accepts_some}
use Rattle.commit_journal.specs.Entries.{born_in}
use Rattle.firing_core.specs.Matching.{MayFilter}
use Rattle.firing_core.proofs.fired.accepts_born.Given as goal

abbrev pub invariant-loop-place : goal.invariant-loop-place
invariant-loop-place l = record {
  left : accepts_some l.cond l.initial.binds (born_in (drop l.fn.from l.journal.entries)) ≡ accepts_some l.cond l.initial.binds (born_in (drop l.place l.journal.entries));
  may : MayFilter l.cond (born_in (drop l.place l.journal.entries)) l.initial.binds;
  kept : l.binds ≡ l.initial.binds;
}
