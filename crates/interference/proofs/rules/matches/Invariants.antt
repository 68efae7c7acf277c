-- The condition elements that are left tell the same.
use Rattle.std.proofs.Common.{◌≡◌, ◌==◌, drop}
use Rattle.std.specs.List.{list_any}
use Rattle.interference.specs.MayInterfere.{classes_of}
use Rattle.interference.specs.Given.{positive}
use Rattle.interference.proofs.rules.matches.Given as goal

abbrev pub invariant-loop-cond : goal.invariant-loop-cond
invariant-loop-cond l = list_any (λ k. k == l.class) (classes_of (positive l.conds)) ≡ list_any (λ k. k == l.class) (classes_of (positive (drop l.cond-index l.conds)))
