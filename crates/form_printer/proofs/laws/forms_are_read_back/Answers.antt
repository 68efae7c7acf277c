use Rattle.form_printer.proofs.RoundTripLemmas.{reads_back}
use Rattle.form_printer.proofs.laws.forms_are_read_back.Goals as goal

pub returns : goal.returns
returns c = reads_back
