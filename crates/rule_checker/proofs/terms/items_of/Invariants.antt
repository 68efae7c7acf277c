use Rattle.std.proofs.Common.{◌≡◌, drop, []}
use Rattle.rule_checker.specs.Walk.{after_each}
use Rattle.rule_checker.specs.Terms.{with_item}
use Rattle.rule_checker.proofs.terms.items_of.Given as goal

-- what is left leads to the same end
abbrev pub invariant-loop-item : goal.invariant-loop-item
invariant-loop-item l = after_each (with_item l.scope) l.made (drop l.item-index l.items) ≡ after_each (with_item l.scope) [] l.items
