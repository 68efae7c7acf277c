-- What is left comes after what was found.
use Rattle.std.proofs.Common.{◌≡◌, ◌++◌}
use Rattle.std.specs.List.{filter}
use Rattle.rule_base.specs.Views.{element_in}
use Rattle.alpha_memory.specs.Stores.{has_at}
use Rattle.alpha_memory.specs.Dispatch.{admits_at}
use Rattle.alpha_memory.proofs.filing.find_among.Given as goal

abbrev pub invariant-loop-number : goal.invariant-loop-number
invariant-loop-number l = record {
  can_next : (goal.iterator-loop-number).can_next l.number-iterator;
  is_finite : (goal.iterator-loop-number).is_finite l.number-iterator;
  rest : l.passed.items ++ filter (has_at (admits_at l.attribute (element_in l.element)) l.stores) l.number-iterator
      ≡ l.initial.passed.items ++ filter (has_at (admits_at l.attribute (element_in l.element)) l.stores) l.fn.numbers;
}
