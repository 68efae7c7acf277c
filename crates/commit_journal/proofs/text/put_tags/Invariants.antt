-- The tags so far.
use Rattle.std.proofs.Common.{◌≡◌, ◌∷◌, ◌++◌, take}
use Rattle.std.specs.Prelude.{decimal}
use Rattle.std.specs.List.{flat_map}
use Rattle.commit_journal.proofs.text.put_tags.Given as goal

abbrev pub invariant-loop-tag : goal.invariant-loop-tag
invariant-loop-tag l = l.text.items ≡ l.fn.text.items ++ flat_map (λ tag. 32 ∷ decimal tag) (take l.tag-index l.tags)
