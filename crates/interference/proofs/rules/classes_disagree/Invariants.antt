-- No class so far.
use Rattle.std.proofs.Common.{◌≡◌, false}
use Rattle.std.specs.List.{list_any, range_with_len}
use Rattle.interference.specs.MayInterfere.{class_demands, disagree}
use Rattle.interference.specs.Modes.{asks}
use Rattle.interference.proofs.rules.classes_disagree.Given as goal

abbrev pub invariant-loop-class : goal.invariant-loop-class
invariant-loop-class l = list_any (λ class. disagree (asks (class_demands l.one) class) (asks (class_demands l.other) class)) (range_with_len 0 l.class) ≡ false
