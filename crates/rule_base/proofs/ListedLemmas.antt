-- The match against the conflict set: each choice that matches is listed.
use Rattle.std.proofs.Common.{◌≡◌, ℕ, ◌+◌, List, [], ◌∷◌, Bool, true, false, not, ◌==◌, Option, Some, None, Result, Ok, Err, inl, is_ok, option_and_then, option_map, map, slice_get, refl, subst, arith}
use Rattle.std.specs.List.{enumerate_from, flat_map, list_any}
use Rattle.std.specs.Option.{option_map_or}
use Rattle.std.proofs.lemmas.Bool.Decides.{Decides-eqb}
use Rattle.rule_base.specs.declared.condition.Cond.{Cond}
use Rattle.rule_base.specs.declared.element.Element.{Element}
use Rattle.rule_base.specs.declared.instantiation.Choice.{Choice}
use Rattle.rule_base.specs.declared.program.Rule.{Rule}
use Rattle.rule_base.specs.declared.program.Program.{Program}
use Rattle.rule_base.specs.Chains.{only_if}
use Rattle.rule_base.specs.Memory.{Memory, element_at}
use Rattle.rule_base.specs.Bindings.{Bindings, no_bindings}
use Rattle.rule_base.specs.Acceptance.{accepts}
use Rattle.rule_base.specs.Match.{accepts_some, after_cond, go_on, match_from, match_of}
use Rattle.rule_base.specs.ConflictSet.{conflict_set, instantiations, tag_lists, tags_by, unless, with_bindings}
use Rattle.rule_base.specs.State.{same_choice}
use Rattle.rule_base.specs.Step.{matches}
use Rattle.rule_base.proofs.ChoiceLemmas.{same_choice-itself}
use Rattle.rule_base.proofs.AmongLemmas.{Among, Among-enumerate_from, Among-flat_map, Among-map, IsFound-find, list_any-among}

-- these condition elements match with these tags, and so the tags are listed
abbrev RestIsListed : ℕ → List Cond → Memory → Type 0
RestIsListed number conds memory = (tags : List ℕ) (bindings last : Bindings) → match_from number conds memory tags bindings ≡ Ok last → Among tags (tag_lists conds memory bindings)

-- what follows the first condition element, where it holds
abbrev after_first : ℕ → List Cond → Memory → List ℕ × Bindings → Result Bindings ℕ
after_first number conds memory after = match_from (number + 1) conds memory after.0 after.1

of_negated : (number : ℕ) (conds : List Cond) (memory : Memory) (tags : List ℕ) (bindings last : Bindings) (b : Bool) → RestIsListed (number + 1) conds memory → go_on {A = List ℕ × Bindings} number (only_if (not b) (tags, bindings)) (after_first number conds memory) ≡ Ok last → Among tags (unless b (tag_lists conds memory) bindings)
of_negated number conds memory tags bindings last true rest ok = absurd (let wrong : ⊥ = cc in wrong)
of_negated number conds memory tags bindings last false rest ok = rest tags bindings last ok

-- the element is there, and accepted with these bindings
of_accepted : (number : ℕ) (cond : Cond) (conds : List Cond) (memory : Memory) (tag : ℕ) (tags : List ℕ) (bindings last : Bindings) (e : Element) (o : Option Bindings) → RestIsListed (number + 1) conds memory → element_at memory tag ≡ Some e → accepts cond bindings e ≡ o → go_on {A = List ℕ × Bindings} number (option_map (λ after. (tags, after)) o) (after_first number conds memory) ≡ Ok last → Among (tag ∷ tags) (tags_by false cond memory bindings (tag_lists conds memory))
of_accepted number cond conds memory tag tags bindings last e None rest at accepted ok = absurd (let wrong : ⊥ = cc in wrong)
of_accepted number cond conds memory tag tags bindings last e (Some after) rest at accepted ok =
    let found = IsFound-find (λ (x : Element). x.tag == tag) memory e at in
    let same : e.tag ≡ tag = (Decides-eqb e.tag tag).0 found.passes in
    let lists_of : Element → List (List ℕ) = λ x. map (λ (ts : List ℕ). x.tag ∷ ts) (with_bindings (tag_lists conds memory) (accepts cond bindings x)) in
    let here : Among (e.tag ∷ tags) (lists_of e) = rw accepted (Among-map (λ (ts : List ℕ). e.tag ∷ ts) tags (tag_lists conds memory after) (rest tags after last ok)) in
    subst (λ t. Among (t ∷ tags) (flat_map lists_of memory)) same (Among-flat_map lists_of e (e.tag ∷ tags) memory found.there here)

of_present : (number : ℕ) (cond : Cond) (conds : List Cond) (memory : Memory) (tag : ℕ) (tags : List ℕ) (bindings last : Bindings) (o : Option Element) → RestIsListed (number + 1) conds memory → element_at memory tag ≡ o → go_on {A = List ℕ × Bindings} number (option_map (λ after. (tags, after)) (option_and_then (accepts cond bindings) o)) (after_first number conds memory) ≡ Ok last → Among (tag ∷ tags) (tags_by false cond memory bindings (tag_lists conds memory))
of_present number cond conds memory tag tags bindings last None rest at ok = absurd (let wrong : ⊥ = cc in wrong)
of_present number cond conds memory tag tags bindings last (Some e) rest at ok = of_accepted number cond conds memory tag tags bindings last e (accepts cond bindings e) rest at refl ok

by_sign : (negated : Bool) (number : ℕ) (cond : Cond) (conds : List Cond) (memory : Memory) (tags : List ℕ) (bindings last : Bindings) → RestIsListed (number + 1) conds memory → go_on number (after_cond negated cond memory tags bindings) (after_first number conds memory) ≡ Ok last → Among tags (tags_by negated cond memory bindings (tag_lists conds memory))
by_sign true number cond conds memory tags bindings last rest ok = of_negated number conds memory tags bindings last (accepts_some cond bindings memory) rest ok
by_sign false number cond conds memory [] bindings last rest ok = absurd (let wrong : ⊥ = cc in wrong)
by_sign false number cond conds memory (tag ∷ tags) bindings last rest ok = of_present number cond conds memory tag tags bindings last (element_at memory tag) rest refl ok

-- tags with which condition elements match are listed
is_listed : (number : ℕ) (conds : List Cond) (memory : Memory) → RestIsListed number conds memory
is_listed number [] memory [] bindings last ok = inl refl
is_listed number [] memory (tag ∷ tags) bindings last ok = absurd (let wrong : ⊥ = cc in wrong)
is_listed number (cond ∷ conds) memory tags bindings last ok = by_sign cond.negated number cond conds memory tags bindings last (is_listed (number + 1) conds memory) ok

of_match : (program : Program) (memory : Memory) (c : Choice) (rule : Rule) (r : Result Bindings ℕ) → slice_get program.rules c.rule ≡ Some rule → match_of rule c.tags memory ≡ r → is_ok r ≡ true → list_any (same_choice c) (conflict_set program memory) ≡ true
of_match program memory c rule (Err n) at is ok = absurd (let wrong : ⊥ = cc in wrong)
of_match program memory c rule (Ok last) at is ok =
    let choice : List ℕ → Choice = λ tags. let d : Choice = record { rule = c.rule; tags = tags } in d in
    let here : Among c (instantiations memory (c.rule, rule)) = Among-map choice c.tags (tag_lists rule.conds memory (no_bindings rule.vars)) (is_listed 1 rule.conds memory c.tags (no_bindings rule.vars) last is) in
    let numbered : Among (c.rule, rule) (enumerate_from 0 program.rules) = let same : 0 + c.rule ≡ c.rule = omega arith in subst (λ n. Among (n, rule) (enumerate_from 0 program.rules)) same (Among-enumerate_from 0 program.rules c.rule rule at) in
    list_any-among (same_choice c) c (conflict_set program memory) (Among-flat_map (instantiations memory) (c.rule, rule) c (enumerate_from 0 program.rules) numbered here) (same_choice-itself c)

of_rule : (program : Program) (memory : Memory) (c : Choice) (o : Option Rule) → slice_get program.rules c.rule ≡ o → option_map_or (λ (rule : Rule). is_ok (match_of rule c.tags memory)) o false ≡ true → list_any (same_choice c) (conflict_set program memory) ≡ true
of_rule program memory c None at ok = absurd (let wrong : ⊥ = cc in wrong)
of_rule program memory c (Some rule) at ok = of_match program memory c rule (match_of rule c.tags memory) at refl ok

-- each choice that matches is in the conflict set
pub list_any-matches : (program : Program) (memory : Memory) (c : Choice) → matches program memory c ≡ true → list_any (same_choice c) (conflict_set program memory) ≡ true
list_any-matches program memory c ok = of_rule program memory c (slice_get program.rules c.rule) refl ok
