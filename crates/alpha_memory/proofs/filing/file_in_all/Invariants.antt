-- The stores so far have changed.
use Rattle.std.proofs.Common.{◌≡◌, take}
use Rattle.rule_base.specs.Views.{element_in}
use Rattle.alpha_memory.specs.Stores.{with_changes, with_place}
use Rattle.alpha_memory.specs.Dispatch.{patterns_of}
use Rattle.alpha_memory.proofs.filing.file_in_all.Given as goal

abbrev pub invariant-loop-number : goal.invariant-loop-number
invariant-loop-number l = record {
  so_far : l.stores ≡ with_changes (with_place l.place (element_in l.element)) (take l.number-index l.numbers) l.initial.stores;
  patterns : patterns_of l.stores ≡ patterns_of l.initial.stores;
}
