-- What levels hold: at least the partial matches whose elements are in working memory, each once.
use Rattle.std.specs.Prelude.{◌≡◌, ℕ, ◌<◌, List, Bool, true, not, ◌&&◌, ◌||◌, ◌++◌, if◌then◌else◌, length}
use Rattle.std.specs.List.{AllByRecursion, list_any}
use Rattle.rule_base.specs.declared.element.Element.{Element}
use Rattle.rule_base.specs.Numbers.{has_number, same_numbers}
use Rattle.match_network.specs.Row.{Joins, is_first, is_living, is_match}
use Rattle.alpha_memory.specs.Times.{times}
use Rattle.match_network.specs.Woven.{Levels}

-- all places of the row are of elements that came
abbrev pub HaveCome : List Element → List ℕ → Type 0
HaveCome came row = AllByRecursion (λ place. place < length came) row

-- the levels are right for a memory
pub record AreLevels (joins : Joins) (came : List Element) (places : List ℕ) (levels : Levels) : Type 0 where
  -- a row of living elements is held once if it is a partial match, and else not at all
  pub once : (row : List ℕ) → is_living places row ≡ true → times (same_numbers row) (levels (length row)) ≡ (if is_match joins came row then 1 else 0)
  -- and rows that are dead are of elements that came
  pub have_come : (width : ℕ) → AllByRecursion (HaveCome came) (levels width)

-- whether a row is without a place, or has it first at one of these condition elements
abbrev pub is_done : ℕ → List ℕ → List ℕ → Bool
is_done place done row = not (has_number row place) || list_any (λ at. is_first place at row) done

-- the levels on the way from a memory without a place to one with it, which was woven in at these condition elements
pub record AreWoven (joins : Joins) (came : List Element) (places : List ℕ) (place : ℕ) (done : List ℕ) (levels : Levels) : Type 0 where
  pub once : (row : List ℕ) → is_living places row ≡ true → times (same_numbers row) (levels (length row)) ≡ (if is_match joins came row && is_done place done row then 1 else 0)
  pub have_come : (width : ℕ) → AllByRecursion (HaveCome came) (levels width)

-- each level keeps its rows, and gets only rows with this place, of elements that came
abbrev pub OnlyAdds : List Element → ℕ → Levels → Levels → Type 0
OnlyAdds came place old new =
    (width : ℕ) → (more : List (List ℕ)) × (new width ≡ old width ++ more) × AllByRecursion (λ row. HaveCome came row × (has_number row place ≡ true)) more
