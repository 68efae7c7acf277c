-- What is left has the attribute as often.
use Rattle.std.proofs.Common.{◌≡◌, ◌==◌}
use Rattle.alpha_memory.specs.Times.{times}
use Rattle.alpha_memory.proofs.dispatch.is_among.Given as goal

abbrev pub invariant-loop-other : goal.invariant-loop-other
invariant-loop-other l = record {
  can_next : (goal.iterator-loop-other).can_next l.other-iterator;
  is_finite : (goal.iterator-loop-other).is_finite l.other-iterator;
  left : times (λ a. l.attribute == a) l.other-iterator ≡ times (λ a. l.attribute == a) l.fn.attributes;
}
