-- The row that was found is one of the rule's.
use Rattle.match_network.specs.Levels.{HaveCome}
use Rattle.match_network.specs.Negated.{whole_rows}
use Rattle.rule_base.proofs.EachLemmas.{Each-slice_get}
use Rattle.match_network.proofs.rule_levels.RuleLevels.blocks.Goals as goal

pub blocks-requires-clause-come : goal.blocks-requires-clause-come
blocks-requires-clause-come c =
    Each-slice_get (HaveCome c.args.arrivals.now.came) (whole_rows c.args.self.now) c.args.number c.whole_row.result.now c.requires.come c.whole_row.ensures
