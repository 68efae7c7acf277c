use Rattle.form_printer.proofs.RoundTripLemmas.{text_forms_are_named}
use Rattle.form_printer.proofs.laws.text_forms_are_named.Goals as goal

pub returns : goal.returns
returns c = text_forms_are_named
