-- The index tells of the entries so far.
use Rattle.std.proofs.Common.{◌≡◌, ◌≤◌, ℕ, List, take}
use Rattle.rule_base.specs.declared.entry.Entry.{Entry}
use Rattle.rule_base.specs.declared.instantiation.Choice.{Choice}
use Rattle.refraction_index.specs.Firings.{Index, Tells}
use Rattle.refraction_index.proofs.index.RefractionIndex.take_in.Given as goal

-- the old index has become the new one by taking in the entries from where it stood up to this place
pub record HasTakenIn (entries : List Entry) (place : ℕ) (old new : Index) : Type 0 where
  pub reached : new.seen ≡ place
  pub kept : old.seen ≤ place
  pub tells : (before : List Choice) → Tells before (take old.seen entries) old → Tells before (take place entries) new

abbrev pub invariant-loop-place : goal.invariant-loop-place
invariant-loop-place l =
    HasTakenIn l.journal.entries l.place l.fn.self (record { seen = l.self-inside.seen; numbers = l.self-inside.numbers })
