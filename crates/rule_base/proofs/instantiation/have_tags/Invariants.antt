-- The elements that are left and the tags that are left tell the same.
use Rattle.std.proofs.Common.{◌≡◌, drop, length}
use Rattle.rule_base.specs.Memory.{tags_of}
use Rattle.rule_base.specs.Numbers.{same_numbers}
use Rattle.rule_base.proofs.instantiation.have_tags.Given as goal

abbrev pub invariant-loop-at : goal.invariant-loop-at
invariant-loop-at l = record {
  same : same_numbers (tags_of l.elements) l.tags ≡ same_numbers (tags_of (drop l.at l.elements)) (drop l.at l.tags);
  long : length l.elements ≡ length l.tags;
}
