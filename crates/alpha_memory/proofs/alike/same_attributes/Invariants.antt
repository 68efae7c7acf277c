-- The first ones are the same.
use Rattle.std.proofs.Common.{◌≡◌, take}
use Rattle.alpha_memory.specs.Stores.{attributes_of}
use Rattle.alpha_memory.proofs.alike.same_attributes.Given as goal

abbrev pub invariant-loop-at : goal.invariant-loop-at
invariant-loop-at l = attributes_of (take l.at l.a) ≡ attributes_of (take l.at l.b)
