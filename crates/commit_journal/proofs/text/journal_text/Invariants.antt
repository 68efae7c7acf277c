-- The lines so far.
use Rattle.std.proofs.Common.{◌≡◌, ◌∷◌, map, take}
use Rattle.rule_base.specs.State.{choices_of}
use Rattle.commit_journal.specs.JournalText.{choice_line, first_line, text_of_lines}
use Rattle.commit_journal.proofs.text.journal_text.Given as goal

abbrev pub invariant-loop-place : goal.invariant-loop-place
invariant-loop-place l = l.text.items ≡ text_of_lines (first_line l.fn.refraction ∷ map choice_line (choices_of (take l.place l.journal.entries)))
