-- The match of an instantiation: its rule's condition elements from left to right, against a working memory.
use Rattle.std.specs.Prelude.{ℕ, ◌+◌, List, [], ◌∷◌, Bool, true, false, not, Option, None, Some, Result, Ok, Err, is_some, option_map, option_and_then}
use Rattle.std.specs.List.{list_any}
use Rattle.rule_base.specs.declared.condition.Cond.{Cond}
use Rattle.rule_base.specs.declared.element.Element.{Element}
use Rattle.rule_base.specs.declared.program.Rule.{Rule}
use Rattle.rule_base.specs.Chains.{only_if}
use Rattle.rule_base.specs.Memory.{Memory, element_at}
use Rattle.rule_base.specs.Bindings.{Bindings, no_bindings}
use Rattle.rule_base.specs.Acceptance.{accepts}

-- whether the condition element accepts some element of the memory under these bindings
abbrev pub accepts_some : Cond → Bindings → Memory → Bool
accepts_some cond bindings memory = list_any (λ (e : Element). is_some (accepts cond bindings e)) memory

-- the tags that are left and the bindings after a positive condition element, which takes the next tag: its
-- element must be there and be accepted
abbrev pub after_positive : Cond → Memory → List ℕ → Bindings → Option (List ℕ × Bindings)
after_positive cond memory [] bindings = None
after_positive cond memory (tag ∷ tags) bindings =
    option_map (λ after. (tags, after)) (option_and_then (accepts cond bindings) (element_at memory tag))

-- the same after a condition element of either sign: a negated one holds where no element is accepted, takes no
-- tag and leaves the bindings as they are
abbrev pub after_cond : Bool → Cond → Memory → List ℕ → Bindings → Option (List ℕ × Bindings)
after_cond true cond memory tags bindings = only_if (not (accepts_some cond bindings memory)) (tags, bindings)
after_cond false cond memory tags bindings = after_positive cond memory tags bindings

-- what follows a condition element that holds, or the number of one that fails
abbrev pub go_on : {A B : Type 0} → ℕ → Option A → (A → Result B ℕ) → Result B ℕ
go_on number None next = Err number
go_on number (Some a) next = next a

-- the bindings after all condition elements from this number on, or the number of the first that fails; where
-- tags are left over at the end, the number past the last
abbrev pub match_from : ℕ → List Cond → Memory → List ℕ → Bindings → Result Bindings ℕ
match_from number [] memory [] bindings = Ok bindings
match_from number [] memory (tag ∷ tags) bindings = Err number
match_from number (cond ∷ conds) memory tags bindings =
    go_on number (after_cond cond.negated cond memory tags bindings) (λ after. match_from (number + 1) conds memory after.0 after.1)

-- the match of a rule with these tags: the bindings, or the number of the first condition element that fails,
-- from 1
abbrev pub match_of : Rule → List ℕ → Memory → Result Bindings ℕ
match_of rule tags memory = match_from 1 rule.conds memory tags (no_bindings rule.vars)
