-- Of the choices so far those that are fired.
use Rattle.std.proofs.Common.{◌≡◌, ◌++◌, filter}
use Rattle.std.specs.Vec.Iter.{into_iter_items}
use Rattle.firing_core.specs.FiredChoices.{is_fired_now}
use Rattle.firing_core.specs.Grouped.{IsWholeGroupingOf}
use Rattle.firing_core.specs.Store.{memory_in}
use Rattle.firing_core.proofs.fired_choices.those_fired.Given as goal

abbrev pub invariant-loop-choice : goal.invariant-loop-choice
invariant-loop-choice l = record {
  grouped : IsWholeGroupingOf l.grouped l.store;
  same : l.index ≡ l.fn.index;
  kept : l.fired.items ≡ filter (is_fired_now l.program l.store.base (memory_in l.store) l.store.entries) l.yielded;
  left : l.fn.choices.items ≡ l.yielded ++ into_iter_items l.choice-iterator;
}
