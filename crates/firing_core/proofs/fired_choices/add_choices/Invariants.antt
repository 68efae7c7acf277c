-- The choices of the entries so far stand at the end.
use Rattle.std.proofs.Common.{◌≡◌, ◌++◌, take}
use Rattle.rule_base.specs.State.{choices_of}
use Rattle.firing_core.proofs.fired_choices.add_choices.Given as goal

abbrev pub invariant-loop-place : goal.invariant-loop-place
invariant-loop-place l = l.choices.items ≡ l.initial.choices.items ++ choices_of (take l.place l.journal.entries)
