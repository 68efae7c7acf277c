-- The settings behind what stands before them.
use Rattle.std.proofs.Common.{◌≡◌, ◌++◌, codes, arith}
use Rattle.std.specs.Prelude.{OnOk}
use Rattle.std.proofs.lemmas.Grind.{common_steps}
use Rattle.form_printer.specs.CanonicalValues.{constant_text, spaced, setting_text}
use Rattle.form_printer.proofs.print.FormPrint.print.Goals as goal

pub returns-in_ok-print_symbol-in-Make : goal.returns-in_ok-print_symbol-in-Make
returns-in_ok-print_symbol-in-Make c =
    let names = c.args.symbols.now in
    let last : OnOk c.print_last-in-Make.result (c.print_last-in-Make.new.out.items ≡ c.print_symbol-in-Make.new.out.items ++ spaced (setting_text names (constant_text names)) c.as_slice-in-Make.result.now ++ codes ")") =
    c.print_last-in-Make.ensures in
    grind (arith, common_steps, last)
