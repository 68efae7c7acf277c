-- The text of a journal: which choices fired, a line for each.
use Rattle.std.specs.Prelude.{ℕ, ◌+◌, List, [], ◌∷◌, ◌++◌, codes, decimal, map}
use Rattle.std.specs.List.{flat_map}
use Rattle.rule_base.specs.declared.instantiation.Choice.{Choice}
use Rattle.rule_base.specs.declared.base.Refraction.{Refraction}
use Rattle.rule_base.specs.declared.base.Refraction.TheVariants.{Once, Renewed}

-- lines, each of which ends with a line feed
abbrev pub text_of_lines : List (List ℕ) → List ℕ
text_of_lines lines = flat_map (λ line. line ++ 10 ∷ []) lines

-- what the text is, in which version, and the refraction of the run
abbrev pub first_line : Refraction → List ℕ
first_line Once = codes "ops5-journal 2 once"
first_line Renewed = codes "ops5-journal 2 renewed"

-- the rule by its number, which counts from 1, and behind it each tag after a space
abbrev pub choice_line : Choice → List ℕ
choice_line c = decimal (c.rule + 1) ++ flat_map (λ tag. 32 ∷ decimal tag) c.tags

abbrev pub last_line : List ℕ
last_line = codes "end"

-- the text of a journal with these choices, in order
abbrev pub journal_text : Refraction → List Choice → List ℕ
journal_text refraction choices = text_of_lines (first_line refraction ∷ map choice_line choices ++ last_line ∷ [])
