-- A new name goes last.
use Rattle.std.proofs.Common.{nat_eq}
use Rattle.rule_checker.proofs.NumberLemmas.{list_any-unnumbered}
use Rattle.rule_checker.proofs.names.Names.add.Goals as goal

pub returns-clause-ok : goal.returns-clause-ok
returns-clause-ok c =
    let new = list_any-unnumbered (nat_eq c.args.name) c.args.self.now c.requires in
    rw (c.in_ok-insert.ensures.keys, c.self.view_is, new)
