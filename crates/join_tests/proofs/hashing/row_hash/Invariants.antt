-- The parts so far are mixed in.
use Rattle.std.proofs.Common.{◌≡◌, take}
use Rattle.join_tests.specs.Joining.{key_of_row}
use Rattle.join_tests.specs.Hashing.{hash_of}
use Rattle.join_tests.proofs.hashing.row_hash.Given as goal

abbrev pub invariant-loop-part : goal.invariant-loop-part
invariant-loop-part g l = l.hash ≡ hash_of (key_of_row (take l.part-index l.key) (g.R.Row.elements l.row))
