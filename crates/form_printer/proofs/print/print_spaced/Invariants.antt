-- The text so far is that of the things so far.
use Rattle.std.proofs.Common.{◌≡◌, ◌++◌, take}
use Rattle.form_printer.specs.CanonicalValues.{spaced}
use Rattle.form_printer.proofs.print.print_spaced.Given as goal

abbrev pub invariant-loop-thing : goal.invariant-loop-thing
invariant-loop-thing g l = l.out.items ≡ l.fn.out.items ++ spaced (g.T.Print.text l.symbols) (take l.thing-index l.things)
