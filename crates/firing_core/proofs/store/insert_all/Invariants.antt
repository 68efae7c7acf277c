-- So many have been taken in.
use Rattle.std.proofs.Common.{◌≡◌, ◌+◌, ◌*◌, ◌≤◌, ◌++◌}
use Rattle.std.specs.List.{range_with_len}
use Rattle.firing_core.proofs.store.insert_all.Given as goal

abbrev pub invariant-loop : goal.invariant-loop
invariant-loop g l = record {
  places : l.memory.places ≡ l.fn.memory.places ++ range_with_len l.fn.memory.came l.counter;
  came : l.memory.came ≡ l.fn.memory.came + l.counter;
  spare : l.fn.memory.spare ≤ l.memory.spare + l.counter;
  steps : l.steps ≤ l.fn.steps + 2 * l.counter;
}
