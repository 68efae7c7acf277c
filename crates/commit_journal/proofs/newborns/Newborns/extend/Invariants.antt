-- The elements so far have been added, and the tags of those that are left go on from there.
use Rattle.std.proofs.Common.{◌≡◌, ◌+◌, ◌≤◌, ◌++◌, drop, take}
use Rattle.rule_base.specs.Memory.{tags_of, value_count}
use Rattle.rule_base.specs.Opening.{AreConsecutive}
use Rattle.commit_journal.proofs.newborns.Newborns.extend.Given as goal

abbrev pub invariant-loop-at : goal.invariant-loop-at
invariant-loop-at l = record {
  elements : l.self.elements ≡ l.fn.self.elements ++ take l.at l.born;
  next : l.self.next ≡ l.fn.self.next + l.at;
  tags : AreConsecutive l.self.next (tags_of (drop l.at l.born));
  count : l.count + value_count (drop l.at l.born) ≡ value_count l.born;
  more_elements : l.fn.self.more_elements ≤ l.self.more_elements + l.at;
  more_values : l.fn.self.more_values ≤ l.self.more_values + l.count;
}
