-- The tags that a commit gives are consecutive.
use Rattle.std.proofs.Common.{◌+◌, [], ◌∷◌, refl}
use Rattle.rule_base.specs.declared.change.Change.TheVariants.{Remove, Make}
use Rattle.commit_journal.specs.Commits.{BornAreConsecutive}

pub consecutive : BornAreConsecutive
consecutive tag [] = tt
consecutive tag (Remove gone ∷ changes) = consecutive tag changes
consecutive tag (Make class values ∷ changes) = (refl, consecutive (tag + 1) changes)
