-- The match of a rule as it is written: its condition elements from left to right, against a working memory, over names
-- and values alone.
use Rattle.std.specs.Prelude.{◌≡◌, ℕ, ◌+◌, List, [], ◌∷◌, Bool, true, false, not, Option, None, Result, Ok, Err, is_some, option_map, option_and_then}
use Rattle.std.specs.List.{AllByRecursion, list_any}
use Rattle.rule_base.specs.declared.element.Element.{Element}
use Rattle.rule_base.specs.declared.program.Class.{Class}
use Rattle.rule_base.specs.declared.program.Rule.{Rule}
use Rattle.rule_base.specs.Chains.{only_if}
use Rattle.rule_base.specs.Bindings.{Bindings}
use Rattle.rule_base.specs.Memory.{Memory, HasSize, element_at}
use Rattle.rule_base.specs.Match.{go_on, match_of}
use Rattle.rule_base.specs.Sound.{sizes_of}
use Rattle.ops_reader.specs.declared.form.FormCond.{FormCond}
use Rattle.rule_checker.specs.NamedBindings.{NamedValues, SayTheSame}
use Rattle.rule_checker.specs.WrittenConditions.{accepts_written}
use Rattle.rule_checker.specs.WrittenRules.{WrittenRule}

-- whether the written condition element accepts some element of the memory under these bindings
abbrev pub accepts_some_written : List Class → FormCond → NamedValues → Memory → Bool
accepts_some_written classes written bindings memory = list_any (λ (e : Element). is_some (accepts_written classes written bindings e)) memory

-- the tags that are left and the bindings after a positive one, which takes the next tag: its element is there and is
-- accepted
abbrev pub after_written_positive : List Class → FormCond → Memory → List ℕ → NamedValues → Option (List ℕ × NamedValues)
after_written_positive classes written memory [] bindings = None
after_written_positive classes written memory (tag ∷ tags) bindings =
    option_map (λ after. (tags, after)) (option_and_then (accepts_written classes written bindings) (element_at memory tag))

-- the same after one of either sign: a negated one holds where it accepts no element, takes no tag, and what it binds is
-- known in it alone
abbrev pub after_written_cond : Bool → List Class → FormCond → Memory → List ℕ → NamedValues → Option (List ℕ × NamedValues)
after_written_cond true classes written memory tags bindings = only_if (not (accepts_some_written classes written bindings memory)) (tags, bindings)
after_written_cond false classes written memory tags bindings = after_written_positive classes written memory tags bindings

-- the bindings after all condition elements from this number on, or the number of the first that fails; where tags are
-- left over at the end, the number past the last
abbrev pub written_match_from : ℕ → List Class → List FormCond → Memory → List ℕ → NamedValues → Result NamedValues ℕ
written_match_from number classes [] memory [] bindings = Ok bindings
written_match_from number classes [] memory (tag ∷ tags) bindings = Err number
written_match_from number classes (written ∷ others) memory tags bindings =
    go_on number (after_written_cond written.negated classes written memory tags bindings) (λ after. written_match_from (number + 1) classes others memory after.0 after.1)

-- the match of a written rule with these tags, where no variable has a value to begin with
abbrev pub written_match : List Class → WrittenRule → List ℕ → Memory → Result NamedValues ℕ
written_match classes written tags memory = written_match_from 1 classes written.conds memory tags []

-- both fail at the same condition element, or both match and their bindings say the same
abbrev pub MatchTheSame : (ℕ → Option ℕ) → Result Bindings ℕ → Result NamedValues ℕ → Type 0
MatchTheSame number (Err first) (Err second) = first ≡ second
MatchTheSame number (Err first) (Ok named) = ⊥
MatchTheSame number (Ok bindings) (Err second) = ⊥
MatchTheSame number (Ok bindings) (Ok named) = SayTheSame number bindings named

-- the elements of a list are those of a memory for these classes
abbrev pub AreOfClasses : List Class → List Element → Type 0
AreOfClasses classes elements = AllByRecursion (HasSize (sizes_of classes)) elements

-- a rule matches as it is written, in every memory for the classes and with every list of tags
pub record HasWrittenMatch (classes : List Class) (written : WrittenRule) (rule : Rule) : Type 0 where
  -- the numbers of names behind the condition elements
  pub number : ℕ → Option ℕ
  pub same : (memory : Memory) (tags : List ℕ) → AreOfClasses classes memory → MatchTheSame number (match_of rule tags memory) (written_match classes written tags memory)
