-- The full matches of a rule, told in the tags of their elements.
use Rattle.std.specs.Prelude.{◌≡◌, ℕ, ◌<◌, List, Bool, ◌&&◌, filter, if◌then◌else◌, is_some, length, map}
use Rattle.std.specs.List.{AllByRecursion, list_all}
use Rattle.rule_base.specs.declared.element.Element.{Element}
use Rattle.rule_base.specs.declared.program.Rule.{Rule}
use Rattle.rule_base.specs.ElementMatch.{bindings_with}
use Rattle.rule_base.specs.Memory.{Memory, Rises, element_at, elements_at, tags_of}
use Rattle.rule_base.specs.Numbers.{same_numbers}
use Rattle.join_tests.specs.declared.joins.Joins.{Joins}
use Rattle.join_tests.specs.Meaning.{IsCompiled}
use Rattle.alpha_memory.specs.Times.{times}
use Rattle.match_network.specs.Arrivals.{Arrivals}
use Rattle.match_network.specs.Conditions.{joins_of}
use Rattle.match_network.specs.Levels.{AreLevels}
use Rattle.match_network.specs.Row.{elements_of, is_living}
use Rattle.match_network.specs.Woven.{Levels}

-- the elements in working memory, in the order in which they came
abbrev pub memory_of : Arrivals → Memory
memory_of arrivals = elements_of arrivals.came arrivals.places

-- the tags of the elements at a row's places
abbrev pub tags_at : List Element → List ℕ → List ℕ
tags_at came row = tags_of (elements_of came row)

-- whether there is an element with each of the tags, and the rule's positive condition elements accept them in this order
abbrev pub takes_tags : Rule → Memory → List ℕ → Bool
takes_tags rule memory tags = list_all (λ t. is_some (element_at memory t)) tags && is_some (bindings_with rule (elements_at memory tags))

-- each list of tags that the rule takes is there once, and no other is
abbrev pub AreFullMatches : Rule → Memory → List (List ℕ) → Type 0
AreFullMatches rule memory lists = (tags : List ℕ) → times (same_numbers tags) lists ≡ (if takes_tags rule memory tags then 1 else 0)

-- the living rows for all positive condition elements are the full matches of the rule
abbrev pub FullMatchesAreTold : Type 0
FullMatchesAreTold =
    (rule : Rule) (joins : Joins) (came : List Element) (places : List ℕ) (levels : Levels) →
    IsCompiled rule joins →
    Rises (tags_of came) → AllByRecursion (λ p. p < length came) places →
    AllByRecursion (λ row. length row ≡ length joins.positives) (levels (length joins.positives)) →
    AreLevels (joins_of joins.positives) came places levels →
    AreFullMatches rule (elements_of came places) (map (tags_at came) (filter (is_living places) (levels (length joins.positives))))
