-- The text so far is that of the forms so far.
use Rattle.std.proofs.Common.{◌≡◌, take}
use Rattle.form_printer.specs.Canonical.{canonical_text}
use Rattle.form_printer.proofs.print.print_forms.Given as goal

abbrev pub invariant-loop-form : goal.invariant-loop-form
invariant-loop-form l = l.text.items ≡ canonical_text l.symbols (take l.form-index l.form-items)
