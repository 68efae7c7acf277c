-- The first condition elements have asked, and nothing is filed.
use Rattle.match_network.specs.Rules.{AreBare, GoesOn}
use Rattle.match_network.proofs.RuleLemmas.{AreAskedTo}
use Rattle.match_network.proofs.rule_levels.ask_all.Given as goal

abbrev pub invariant-loop-number : goal.invariant-loop-number
invariant-loop-number l = record {
  asked : AreAskedTo l.joins l.number l.alpha l.stores;
  bare : AreBare l.alpha;
  goes_on : GoesOn l.fn.alpha l.alpha;
}
