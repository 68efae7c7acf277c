-- A look-up among the stored names is one among their bytes.
use Rattle.std.proofs.Common.{sym}
use Rattle.std.proofs.lemmas.Option.{cond_some}
use Rattle.ops_text.proofs.NamesLemmas.{prefix_len-map, list_any-map}
use Rattle.ops_text.proofs.symbols.Symbols.find.Goals as goal

pub returns-in-Some-clause-known : goal.returns-in-Some-clause-known
returns-in-Some-clause-known c = rw (← c.self.view_is, list_any-map) c.in-Some.ensures.found

pub returns-in-Some-clause-number : goal.returns-in-Some-clause-number
returns-in-Some-clause-number c = rw (← c.self.view_is, prefix_len-map) (sym (cond_some _ _ _ (sym c.in-Some.ensures.index)).1)

pub returns-in-None-clause-known : goal.returns-in-None-clause-known
returns-in-None-clause-known c = rw (← c.self.view_is, list_any-map) c.in-None.ensures.found
