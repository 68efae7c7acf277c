-- The first negated condition elements have asked, and nothing is filed.
use Rattle.match_network.specs.Rules.{AreBare, GoesOn}
use Rattle.match_network.proofs.NegatedLemmas.{AreNegatedAskedTo}
use Rattle.match_network.proofs.rule_levels.ask_negated.Given as goal

abbrev pub invariant-loop-number : goal.invariant-loop-number
invariant-loop-number l = record {
  asked : AreNegatedAskedTo l.negated l.number l.alpha l.stores;
  bare : AreBare l.alpha;
  goes_on : GoesOn l.fn.alpha l.alpha;
}
