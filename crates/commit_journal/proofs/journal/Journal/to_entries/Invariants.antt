-- The entries so far.
use Rattle.std.proofs.Common.{◌≡◌, take}
use Rattle.commit_journal.proofs.journal.Journal.to_entries.Given as goal

abbrev pub invariant-loop-place : goal.invariant-loop-place
invariant-loop-place l = l.entries ≡ take l.place l.self.entries
