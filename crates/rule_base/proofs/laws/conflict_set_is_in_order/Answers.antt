-- The laws are lemmas about the definitions.
use Rattle.rule_base.proofs.OrderLemmas.{IsInOrder-conflict_set, comes_before-itself}
use Rattle.rule_base.proofs.laws.conflict_set_is_in_order.Goals as goal

pub returns-clause-in_order : goal.returns-clause-in_order
returns-clause-in_order c = IsInOrder-conflict_set

pub returns-clause-once : goal.returns-clause-once
returns-clause-once c = comes_before-itself
