-- None of the places before agreed, and what is left was filed.
use Rattle.std.proofs.Common.{◌≡◌, ℕ, ◌+◌, ◌<◌, ◌≤◌, length, reverse, true}
use Rattle.std.specs.List.{AllByRecursion, list_any}
use Rattle.rule_base.specs.Numbers.{has_number}
use Rattle.hash_buckets.specs.Buckets.{numbers_of}
use Rattle.alpha_memory.specs.Times.{times}
use Rattle.match_network.specs.Joining.{agrees_at}
use Rattle.match_network.specs.Tried.{has_key}
use Rattle.match_network.proofs.negated.find_in.Given as goal

abbrev pub invariant-loop-place : goal.invariant-loop-place
invariant-loop-place g l = record {
  filed : (p : ℕ) → has_number l.place-iterator p ≡ true → has_number (reverse (numbers_of l.store.entries l.hash)) p ≡ true;
  none : list_any (agrees_at l.stage.join.now l.stage.arrivals.now.came l.row) l.place-iterator ≡ list_any (agrees_at l.stage.join.now l.stage.arrivals.now.came l.row) (reverse (numbers_of l.store.entries l.hash));
  within : AllByRecursion (λ p. p < length l.stage.arrivals.now.came) l.place-iterator;
  steps : l.steps + times (has_key l.stage.join.now l.stage.arrivals.now.came l.row) l.place-iterator ≤ l.fn.steps + times (has_key l.stage.join.now l.stage.arrivals.now.came l.row) (reverse (numbers_of l.store.entries l.hash));
}
