-- Laws of commits: the entry of a firing is one that a journal takes in.
use Rattle.std.specs.Prelude.{◌≡◌, ℕ, List}
use Rattle.rule_base.specs.declared.change.Change.{Change}
use Rattle.rule_base.specs.declared.instantiation.Choice.{Choice}
use Rattle.rule_base.specs.Effect.{Effect, removed_tags}
use Rattle.rule_base.specs.Memory.{tags_of}
use Rattle.rule_base.specs.Opening.{AreConsecutive}
use Rattle.rule_base.specs.Step.{born, entry_of}
use Rattle.commit_journal.specs.Entries.{entry_with}

-- the entry of a firing has the tags that its effect removes and the elements that it makes, which get tags from this
-- one on
abbrev pub CommitsAreEntries : Type 0
CommitsAreEntries = (tag : ℕ) (c : Choice) (done : Effect)
    → entry_of tag c done ≡ entry_with c.rule c.tags (removed_tags done.changes) (born tag done.changes) done.pieces done.halts

-- and these tags are consecutive
abbrev pub BornAreConsecutive : Type 0
BornAreConsecutive = (tag : ℕ) (changes : List Change) → AreConsecutive tag (tags_of (born tag changes))
