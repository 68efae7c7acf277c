-- The parts so far are mixed in.
use Rattle.std.proofs.Common.{◌≡◌, take}
use Rattle.rule_base.specs.Views.{element_in}
use Rattle.join_tests.specs.Joining.{key_of_element}
use Rattle.join_tests.specs.Hashing.{hash_of}
use Rattle.join_tests.proofs.hashing.element_hash.Given as goal

abbrev pub invariant-loop-part : goal.invariant-loop-part
invariant-loop-part l = l.hash ≡ hash_of (key_of_element (take l.part-index l.key) (element_in l.element))
