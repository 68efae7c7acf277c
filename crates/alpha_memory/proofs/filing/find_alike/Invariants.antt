-- What is left has each store that asks alike as often.
use Rattle.std.proofs.Common.{◌≡◌, ℕ, ◌==◌}
use Rattle.alpha_memory.specs.Stores.{Serves}
use Rattle.alpha_memory.specs.Times.{times}
use Rattle.alpha_memory.proofs.filing.find_alike.Given as goal

abbrev pub invariant-loop-number : goal.invariant-loop-number
invariant-loop-number l = record {
  can_next : (goal.iterator-loop-number).can_next l.number-iterator;
  is_finite : (goal.iterator-loop-number).is_finite l.number-iterator;
  left : (n : ℕ) → Serves l.wanted l.stores n → times (λ m. n == m) l.number-iterator ≡ times (λ m. n == m) l.fn.numbers;
}
