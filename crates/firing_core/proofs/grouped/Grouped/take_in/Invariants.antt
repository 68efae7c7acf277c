-- The places up to this one were taken in.
use Rattle.std.proofs.Common.{◌≡◌}
use Rattle.firing_core.specs.Grouped.{IsGroupingOf}
use Rattle.firing_core.proofs.grouped.Grouped.take_in.Given as goal

abbrev pub invariant-loop-place : goal.invariant-loop-place
invariant-loop-place l = record {
  attributes : l.self-inside.attributes.items ≡ l.fn.self.attributes;
  reached : l.self-inside.seen ≡ l.place;
  grouping : IsGroupingOf (record { groups = l.self-inside.groups; seen = l.self-inside.seen; attributes = l.self-inside.attributes.items }) l.store;
}
