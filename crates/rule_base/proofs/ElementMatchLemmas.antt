-- The match against the match with given elements: the bindings are the same.
use Rattle.std.proofs.Common.{◌≡◌, ℕ, ◌+◌, List, [], ◌∷◌, Bool, true, false, not, Option, Some, None, Result, Ok, option_and_then, option_map, ap}
use Rattle.std.specs.List.{cons_option}
use Rattle.rule_base.specs.declared.condition.Cond.{Cond}
use Rattle.rule_base.specs.declared.element.Element.{Element}
use Rattle.rule_base.specs.declared.program.Rule.{Rule}
use Rattle.rule_base.specs.Chains.{only_if}
use Rattle.rule_base.specs.Memory.{Memory, element_at, elements_at}
use Rattle.rule_base.specs.Bindings.{Bindings, no_bindings}
use Rattle.rule_base.specs.Acceptance.{accepts}
use Rattle.rule_base.specs.Match.{accepts_some, after_cond, go_on, match_from, match_of}
use Rattle.rule_base.specs.ElementMatch.{after_element, bindings_with, matched}

-- these condition elements match with these tags, and so they take the elements there
abbrev RestIsMatched : ℕ → List Cond → Memory → Type 0
RestIsMatched number conds memory = (tags : List ℕ) (bindings last : Bindings) → match_from number conds memory tags bindings ≡ Ok last → matched conds (elements_at memory tags) bindings ≡ Some last

-- what follows the first condition element, in each of the two
abbrev after_first : ℕ → List Cond → Memory → List ℕ × Bindings → Result Bindings ℕ
after_first number conds memory after = match_from (number + 1) conds memory after.0 after.1

abbrev then_matched : List Cond → Option (List Element × Bindings) → Option Bindings
then_matched conds o = option_and_then (λ (after : List Element × Bindings). matched conds after.0 after.1) o

of_negated : (number : ℕ) (conds : List Cond) (memory : Memory) (tags : List ℕ) (bindings last : Bindings) (b : Bool) → RestIsMatched (number + 1) conds memory → go_on {A = List ℕ × Bindings} number (only_if (not b) (tags, bindings)) (after_first number conds memory) ≡ Ok last → matched conds (elements_at memory tags) bindings ≡ Some last
of_negated number conds memory tags bindings last true rest ok = absurd (let wrong : ⊥ = cc in wrong)
of_negated number conds memory tags bindings last false rest ok = rest tags bindings last ok

of_accepted : (number : ℕ) (conds : List Cond) (memory : Memory) (tags : List ℕ) (last : Bindings) (o : Option Bindings) → RestIsMatched (number + 1) conds memory → go_on {A = List ℕ × Bindings} number (option_map (λ after. (tags, after)) o) (after_first number conds memory) ≡ Ok last → then_matched conds (option_map (λ after. (elements_at memory tags, after)) o) ≡ Some last
of_accepted number conds memory tags last None rest ok = absurd (let wrong : ⊥ = cc in wrong)
of_accepted number conds memory tags last (Some after) rest ok = rest tags after last ok

of_present : (number : ℕ) (cond : Cond) (conds : List Cond) (memory : Memory) (tags : List ℕ) (bindings last : Bindings) (o : Option Element) → RestIsMatched (number + 1) conds memory → go_on {A = List ℕ × Bindings} number (option_map (λ after. (tags, after)) (option_and_then (accepts cond bindings) o)) (after_first number conds memory) ≡ Ok last → then_matched conds (after_element false cond (cons_option o (elements_at memory tags)) bindings) ≡ Some last
of_present number cond conds memory tags bindings last None rest ok = absurd (let wrong : ⊥ = cc in wrong)
of_present number cond conds memory tags bindings last (Some e) rest ok = of_accepted number conds memory tags last (accepts cond bindings e) rest ok

by_sign : (negated : Bool) (number : ℕ) (cond : Cond) (conds : List Cond) (memory : Memory) (tags : List ℕ) (bindings last : Bindings) → RestIsMatched (number + 1) conds memory → go_on number (after_cond negated cond memory tags bindings) (after_first number conds memory) ≡ Ok last → then_matched conds (after_element negated cond (elements_at memory tags) bindings) ≡ Some last
by_sign true number cond conds memory tags bindings last rest ok = of_negated number conds memory tags bindings last (accepts_some cond bindings memory) rest ok
by_sign false number cond conds memory [] bindings last rest ok = absurd (let wrong : ⊥ = cc in wrong)
by_sign false number cond conds memory (tag ∷ tags) bindings last rest ok = of_present number cond conds memory tags bindings last (element_at memory tag) rest ok

is_matched : (number : ℕ) (conds : List Cond) (memory : Memory) → RestIsMatched number conds memory
is_matched number [] memory [] bindings last ok = let same : bindings ≡ last = cc in ap (λ b. Some b) same
is_matched number [] memory (tag ∷ tags) bindings last ok = absurd (let wrong : ⊥ = cc in wrong)
is_matched number (cond ∷ conds) memory tags bindings last ok = by_sign cond.negated number cond conds memory tags bindings last (is_matched (number + 1) conds memory) ok

-- the bindings of a match are those with which the rule takes the elements that it matched
pub bindings_with-elements_at : (rule : Rule) (tags : List ℕ) (memory : Memory) (bindings : Bindings) → match_of rule tags memory ≡ Ok bindings → bindings_with rule (elements_at memory tags) ≡ Some bindings
bindings_with-elements_at rule tags memory bindings ok = is_matched 1 rule.conds memory tags (no_bindings rule.vars) bindings ok
