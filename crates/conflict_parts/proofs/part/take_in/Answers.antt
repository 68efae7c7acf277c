-- What becomes of full rows.
use Rattle.std.proofs.Common.{◌<◌, length, subst}
use Rattle.std.specs.List.{AllByRecursion}
use Rattle.rule_base.specs.Memory.{Rises, tags_of}
use Rattle.rule_base.specs.Views.{element_in}
use Rattle.match_network.specs.Arrivals.{Arrivals}
use Rattle.conflict_parts.proofs.RowLemmas.{grown-from, undone-from}
use Rattle.conflict_parts.proofs.part.take_in.Goals as goal

pub returns-clause-grown : goal.returns-clause-grown
returns-clause-grown g c =
    let added = c.add-added.ensures in
    grown-from c.add-added.result c.args.network.now c.add-added.new.self (element_in c.args.element) c.all_are_right.ensures.right c.all_are_right.ensures.levels c.all_are_right-2.ensures.levels
    (subst (λ (a : Arrivals). AllByRecursion (λ p. p < length a.came) a.places) c.arrivals.ensures c.len-came.ensures.rising.1)
    added.joins added.grows added.ok added.came

pub returns-clause-undone : goal.returns-clause-undone
returns-clause-undone g c =
    undone-from c.add-added.result c.args.network.now c.add-added.new.self (element_in c.args.element)
    (subst (λ (a : Arrivals). AllByRecursion (λ p. p < length a.came) a.places) c.arrivals.ensures c.len-came.ensures.rising.1)
    (subst (λ (a : Arrivals). Rises (tags_of a.came)) c.arrivals.ensures c.len-came.ensures.tags)
    c.requires c.add-added.ensures.ok
