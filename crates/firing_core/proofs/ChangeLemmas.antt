-- Changes: the tags that they remove, and the elements that they make.
use Rattle.std.proofs.Common.{◌≡◌, ℕ, ◌+◌, List, [], ◌∷◌, length, refl, arith}
use Rattle.rule_base.specs.declared.change.Change.{Change}
use Rattle.rule_base.specs.declared.change.Change.TheVariants.{Remove, Make}
use Rattle.rule_base.specs.Effect.{removed_tags}
use Rattle.rule_base.specs.Step.{born}

-- each change removes a tag or makes an element
pub length-changes : (next : ℕ) (changes : List Change) → length (removed_tags changes) + length (born next changes) ≡ length changes
length-changes next [] = refl
length-changes next (Remove tag ∷ changes) = omega (arith, length-changes next changes)
length-changes next (Make class values ∷ changes) = omega (arith, length-changes (next + 1) changes)
