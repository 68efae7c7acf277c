-- The settings behind what stands before them.
use Rattle.std.proofs.Common.{◌≡◌, ◌++◌, codes, arith}
use Rattle.std.specs.Prelude.{OnOk}
use Rattle.std.proofs.lemmas.Grind.{common_steps}
use Rattle.form_printer.specs.CanonicalValues.{spaced, setting_text}
use Rattle.form_printer.specs.CanonicalActions.{term_text}
use Rattle.form_printer.proofs.print.actions.FormActionPrint.print.Goals as goal

pub returns-in_ok-print_symbol-in-Make : goal.returns-in_ok-print_symbol-in-Make
returns-in_ok-print_symbol-in-Make c =
    let names = c.args.symbols.now in
    let last : OnOk c.print_last.result (c.print_last.new.out.items ≡ c.print_symbol.new.out.items ++ spaced (setting_text names (term_text names)) c.as_slice.result.now ++ codes ")") =
    c.print_last.ensures in
    grind (arith, common_steps, last)

pub returns-in_ok-print-in-Modify : goal.returns-in_ok-print-in-Modify
returns-in_ok-print-in-Modify c =
    let names = c.args.symbols.now in
    let last : OnOk c.print_last-in-Modify.result (c.print_last-in-Modify.new.out.items ≡ c.print.new.out.items ++ spaced (setting_text names (term_text names)) c.as_slice-in-Modify.result.now ++ codes ")") =
    c.print_last-in-Modify.ensures in
    grind (arith, common_steps, last)
