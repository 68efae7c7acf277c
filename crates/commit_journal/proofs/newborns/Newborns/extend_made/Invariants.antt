-- The changes that are left make the elements that are left, with the tags that go on from here.
use Rattle.std.proofs.Common.{◌≡◌, ◌+◌, ◌≤◌, ◌++◌, drop, length}
use Rattle.rule_base.specs.Memory.{value_count}
use Rattle.rule_base.specs.Step.{born}
use Rattle.commit_journal.proofs.newborns.Newborns.extend_made.Given as goal

abbrev pub invariant-loop-at : goal.invariant-loop-at
invariant-loop-at g l = record {
  elements : l.self.elements ++ born l.self.next (drop l.at l.effect.changes) ≡ l.fn.self.elements ++ born l.fn.self.next l.effect.changes;
  next : l.self.next + length (born l.self.next (drop l.at l.effect.changes)) ≡ l.fn.self.next + length (born l.fn.self.next l.effect.changes);
  count : l.count + value_count (born l.self.next (drop l.at l.effect.changes)) ≡ value_count (born l.fn.self.next l.effect.changes);
  more_elements : l.fn.self.more_elements + length (born l.self.next (drop l.at l.effect.changes)) ≤ l.self.more_elements + length (born l.fn.self.next l.effect.changes);
  more_values : l.fn.self.more_values + value_count (born l.self.next (drop l.at l.effect.changes)) ≤ l.self.more_values + value_count (born l.fn.self.next l.effect.changes);
  steps : l.steps ≤ l.fn.steps + l.at;
}
