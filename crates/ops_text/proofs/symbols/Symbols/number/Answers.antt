-- A name is known or new, and has its number in both cases.
use Rattle.std.proofs.Common.{sym}
use Rattle.ops_text.proofs.NamesLemmas.{slice_get-number_of, number_of-new}
use Rattle.ops_text.proofs.symbols.Symbols.number.Goals as goal

pub returns-in-Some-clause-given : goal.returns-in-Some-clause-given
returns-in-Some-clause-given c = rw c.in-Some.ensures.number (slice_get-number_of _ _ (sym c.in-Some.ensures.known))

pub returns-in-None-clause-ok : goal.returns-in-None-clause-ok
returns-in-None-clause-ok c = rw (number_of-new _ _ (sym c.in-None.ensures.known)) c.add.ensures.ok
