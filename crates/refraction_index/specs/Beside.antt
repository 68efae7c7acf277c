-- A match beside further elements: which of them stand in its way.
use Rattle.std.specs.Prelude.{◌≡◌, ℕ, List, [], ◌∷◌, ◌++◌, Bool, true, false, not, ◌&&◌, IsSome, is_ok, slice_get}
use Rattle.std.specs.List.{AllByRecursion}
use Rattle.std.specs.Option.{option_map_or}
use Rattle.rule_base.specs.declared.condition.Cond.{Cond}
use Rattle.rule_base.specs.declared.instantiation.Choice.{Choice}
use Rattle.rule_base.specs.declared.program.Rule.{Rule}
use Rattle.rule_base.specs.declared.program.Program.{Program}
use Rattle.rule_base.specs.Memory.{Memory, Rises, element_at, tags_of}
use Rattle.rule_base.specs.Bindings.{Bindings, no_bindings}
use Rattle.rule_base.specs.Match.{accepts_some, after_positive, match_from}
use Rattle.rule_base.specs.Step.{matches}

-- each of these tags has its element in the memory
abbrev pub AreThere : Memory → List ℕ → Type 0
AreThere memory tags = AllByRecursion (λ tag. IsSome (element_at memory tag)) tags

-- one condition element before others: a negated one is blocked where it accepts one of the further elements, and a
-- positive one never is; where that doesn't hold, those behind it aren't reached and so aren't blocked
abbrev pub blocks_none_by : Bool → Cond → Memory → Memory → List ℕ → Bindings → (List ℕ → Bindings → Bool) → Bool
blocks_none_by true cond memory more tags bindings behind = not (accepts_some cond bindings more) && behind tags bindings
blocks_none_by false cond memory more tags bindings behind =
    option_map_or (λ (after : List ℕ × Bindings). behind after.0 after.1) (after_positive cond memory tags bindings) true

-- none of the further elements blocks these condition elements: no negated one accepts one of them, under the bindings
-- with which the tags' elements in the memory reach it
abbrev pub blocks_none_from : List Cond → Memory → Memory → List ℕ → Bindings → Bool
blocks_none_from [] memory more tags bindings = true
blocks_none_from (cond ∷ conds) memory more tags bindings =
    blocks_none_by cond.negated cond memory more tags bindings (λ rest after. blocks_none_from conds memory more rest after)

-- the same of a choice, whose rule's condition elements they are
abbrev pub blocks_none : Program → Memory → Memory → Choice → Bool
blocks_none program memory more c =
    option_map_or (λ (rule : Rule). blocks_none_from rule.conds memory more c.tags (no_bindings rule.vars)) (slice_get program.rules c.rule) true

-- condition elements match beside further elements where they match without them and none of them blocks one
abbrev pub MatchesComeApart : Type 0
MatchesComeApart = (number : ℕ) (conds : List Cond) (memory more : Memory) (tags : List ℕ) (bindings : Bindings) → AreThere memory tags
    → is_ok (match_from number conds (memory ++ more) tags bindings)
    ≡ (is_ok (match_from number conds memory tags bindings) && blocks_none_from conds memory more tags bindings)

-- and so do choices
abbrev pub ChoicesComeApart : Type 0
ChoicesComeApart = (program : Program) (memory more : Memory) (c : Choice) → AreThere memory c.tags
    → matches program (memory ++ more) c ≡ (matches program memory c && blocks_none program memory more c)

-- a choice that matches, in a memory whose tags rise, also does beside further elements where they block none of its
-- condition elements
abbrev pub MatchesGoOn : Type 0
MatchesGoOn = (program : Program) (memory more : Memory) (c : Choice) → Rises (tags_of memory) → matches program memory c ≡ true
    → matches program (memory ++ more) c ≡ blocks_none program memory more c
