-- The copies so far are the elements so far.
use Rattle.std.proofs.Common.{◌≡◌, take}
use Rattle.ops_text.proofs.duplicate.copied.Given as goal

abbrev pub invariant-loop-value : goal.invariant-loop-value
invariant-loop-value g l = l.copies.items ≡ take l.value-index l.values
