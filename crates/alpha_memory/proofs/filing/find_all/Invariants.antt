-- What is left comes after what was found.
use Rattle.std.proofs.Common.{◌≡◌, ◌++◌, Some}
use Rattle.std.specs.List.{flat_map}
use Rattle.rule_base.specs.Views.{element_in}
use Rattle.alpha_memory.specs.Dispatch.{found_at}
use Rattle.alpha_memory.proofs.filing.find_all.Given as goal

abbrev pub invariant-loop-attribute : goal.invariant-loop-attribute
invariant-loop-attribute l = record {
  can_next : (goal.iterator-loop-attribute).can_next l.attribute-iterator;
  is_finite : (goal.iterator-loop-attribute).is_finite l.attribute-iterator;
  rest : l.passed.items ++ flat_map (λ a. found_at l.stores l.numbers.entries (element_in l.element) (Some a)) l.attribute-iterator
      ≡ l.initial.passed.items ++ flat_map (λ a. found_at l.stores l.numbers.entries (element_in l.element) (Some a)) l.initial.attribute-iterator;
}
