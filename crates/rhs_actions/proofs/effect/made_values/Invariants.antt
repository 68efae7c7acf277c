-- So many values have been counted, and the others are left.
use Rattle.std.proofs.Common.{◌≡◌, ◌+◌, drop}
use Rattle.rhs_actions.specs.EffectPlaces.{sizes_of}
use Rattle.rhs_actions.proofs.effect.made_values.Given as goal

abbrev pub invariant-loop-change : goal.invariant-loop-change
invariant-loop-change l = l.count + sizes_of (drop l.change-index l.changes) ≡ sizes_of l.changes
