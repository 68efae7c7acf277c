-- Numbers of choices, by their words.
use Rattle.std.specs.Prelude.{◌≡◌, ◌<◌, ℕ, List, ◌∷◌, length, map, Option, None, Vec}
use Rattle.std.specs.Map.{lookup}
use Rattle.std.specs.declared.alloc.Global.{Global}
use Rattle.rule_base.specs.declared.instantiation.Choice.{Choice}
use Rattle.rule_base.specs.Numbers.{same_numbers}

-- a rule with tags, as a choice
abbrev pub choice_with : ℕ → List ℕ → Choice
choice_with rule tags = record { rule = rule; tags = tags }

-- a choice's words: its rule, then its tags
abbrev pub words_of : Choice → List ℕ
words_of choice = choice.rule ∷ choice.tags

-- a number for each of some words
abbrev pub Numbers : Type 0
Numbers = List (List ℕ × ℕ)

-- the choice's number, if it has one
abbrev pub number_of : Numbers → Choice → Option ℕ
number_of numbers choice = lookup (same_numbers (words_of choice)) numbers

-- the entries of a map, with each vector as the list of its items
abbrev pub by_items : List (Vec ℕ Global × ℕ) → Numbers
by_items entries = map (λ e. (e.0.items, e.1)) entries

-- words that don't fit in so much room have no number
abbrev pub AreWithin : ℕ → Numbers → Type 0
AreWithin room numbers = (words : List ℕ) → room < length words → lookup (same_numbers words) numbers ≡ None
