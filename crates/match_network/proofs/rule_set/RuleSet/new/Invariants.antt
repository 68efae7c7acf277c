-- The first rules are compiled, and nothing is filed.
use Rattle.std.proofs.Common.{[]}
use Rattle.match_network.specs.Network.{IsNetwork}
use Rattle.match_network.specs.Rules.{AreBare}
use Rattle.match_network.proofs.SetLemmas.{AreCompiledTo}
use Rattle.match_network.proofs.rule_set.RuleSet.new.Given as goal

abbrev pub invariant-loop-number : goal.invariant-loop-number
invariant-loop-number l = record {
  compiled : AreCompiledTo l.rules l.number l.set.rules.items;
  right : IsNetwork [] [] l.set.alpha l.set.rules.items l.set.askers.items l.set.negated_askers.items;
  bare : AreBare l.set.alpha;
}
