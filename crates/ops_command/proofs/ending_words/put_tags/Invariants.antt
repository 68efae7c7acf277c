-- The tags so far, each with a space before it.
use Rattle.std.proofs.Common.{◌≡◌, ◌++◌, decimal, take}
use Rattle.form_printer.specs.CanonicalValues.{spaced}
use Rattle.ops_command.proofs.ending_words.put_tags.Given as goal

abbrev pub invariant-loop-tag : goal.invariant-loop-tag
invariant-loop-tag l = l.words.items ≡ l.initial.words.items ++ spaced decimal (take l.tag-index l.tags)
