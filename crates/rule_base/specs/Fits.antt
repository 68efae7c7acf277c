-- Candidates that fit a program: their tags, their elements and their rule agree.
use Rattle.std.specs.Prelude.{◌≡◌, ℕ, List, Bool, false, ◌&&◌, Some, length, option_map, slice_get, ◌==◌}
use Rattle.std.specs.List.{AllByRecursion, list_all}
use Rattle.std.specs.Option.{option_map_or}
use Rattle.rule_base.specs.declared.element.Element.{Element}
use Rattle.rule_base.specs.declared.instantiation.Candidate.{Candidate}
use Rattle.rule_base.specs.declared.program.Rule.{Rule}
use Rattle.rule_base.specs.declared.program.Program.{Program}
use Rattle.rule_base.specs.Memory.{HasSize, tags_of}
use Rattle.rule_base.specs.Numbers.{same_numbers}
use Rattle.rule_base.specs.Sound.{sizes_of}

-- the candidate's elements are those of its tags, one for each positive condition element of its rule, and of classes
-- of the program
pub record Fits (program : Program) (candidate : Candidate) : Type 0 where
  pub tags : tags_of candidate.elements ≡ candidate.choice.tags
  pub positives : option_map (λ (rule : Rule). rule.positives) (slice_get program.rules candidate.choice.rule) ≡ Some (length candidate.elements)
  pub sized : AllByRecursion (HasSize (sizes_of program.classes)) candidate.elements

-- whether the element's class has a size, and the element as many values
abbrev pub has_size : List ℕ → Element → Bool
has_size sizes e = option_map_or (λ size. size == length e.values) (slice_get sizes e.class) false

-- whether a candidate's tags, elements and rule agree
abbrev pub is_fitting : Program → Candidate → Bool
is_fitting program candidate =
    same_numbers (tags_of candidate.elements) candidate.choice.tags
    && option_map_or (λ (rule : Rule). rule.positives == length candidate.elements) (slice_get program.rules candidate.choice.rule) false
    && list_all (has_size (sizes_of program.classes)) candidate.elements
