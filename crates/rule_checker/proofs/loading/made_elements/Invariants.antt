use Rattle.std.proofs.Common.{◌≡◌, [], drop, fold}
use Rattle.rule_checker.specs.Opening.{with_made}
use Rattle.rule_checker.proofs.loading.made_elements.Given as goal

-- what is left leads to the same elements
abbrev pub invariant-loop-class : goal.invariant-loop-class
invariant-loop-class l = fold with_made l.elements (drop l.class-index l.makes) ≡ fold with_made [] l.makes
