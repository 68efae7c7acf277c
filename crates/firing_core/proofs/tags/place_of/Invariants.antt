-- No element before the places that are left has the tag, and none behind them.
use Rattle.std.proofs.Common.{◌≡◌, ◌-◌, ◌≤◌, None, drop, length, take}
use Rattle.rule_base.specs.Memory.{element_at}
use Rattle.firing_core.proofs.tags.place_of.Given as goal

abbrev pub invariant-loop-low : goal.invariant-loop-low
invariant-loop-low l = record {
  in_order : l.low ≤ l.high;
  within : l.high ≤ length l.elements;
  before : element_at (take l.low l.elements) l.tag ≡ None;
  behind : element_at (drop l.high l.elements) l.tag ≡ None;
}

abbrev pub decreases-loop-low : goal.decreases-loop-low
decreases-loop-low l = l.high - l.low
