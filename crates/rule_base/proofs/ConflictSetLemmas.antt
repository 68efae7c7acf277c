-- The conflict set against the match: each of its choices matches.
use Rattle.std.proofs.Common.{◌≡◌, ℕ, ◌+◌, List, [], ◌∷◌, Bool, true, false, not, Option, Some, None, is_ok, map, slice_get, refl, sym, ◌∙◌, ap, arith, suc}
use Rattle.std.specs.List.{AllByRecursion, enumerate_from}
use Rattle.rule_base.specs.declared.condition.Cond.{Cond}
use Rattle.rule_base.specs.declared.element.Element.{Element}
use Rattle.rule_base.specs.declared.instantiation.Choice.{Choice}
use Rattle.rule_base.specs.declared.program.Rule.{Rule}
use Rattle.rule_base.specs.declared.program.Program.{Program}
use Rattle.rule_base.specs.Chains.{only_if}
use Rattle.rule_base.specs.Memory.{Memory, element_at, Rises, tags_of}
use Rattle.rule_base.specs.Bindings.{Bindings, no_bindings}
use Rattle.rule_base.specs.Acceptance.{accepts}
use Rattle.rule_base.specs.Match.{accepts_some, after_cond, go_on, match_from}
use Rattle.rule_base.specs.ConflictSet.{conflict_set, instantiations, tag_lists, tags_by, unless, with_bindings}
use Rattle.rule_base.specs.Step.{matches}
use Rattle.rule_base.proofs.EachLemmas.{Each-flat_map, Each-map, Each-weaker}
use Rattle.rule_base.proofs.MemoryLemmas.{AllFound, AllFound-rising}

-- the condition elements from this number on match with these tags
abbrev PassesFrom : ℕ → List Cond → Memory → Bindings → List ℕ → Type 0
PassesFrom number conds memory bindings tags = is_ok (match_from number conds memory tags bindings) ≡ true

-- the same where the first of them has this sign
abbrev PassesBy : Bool → ℕ → Cond → List Cond → Memory → Bindings → List ℕ → Type 0
PassesBy negated number cond conds memory bindings tags = is_ok (go_on number (after_cond negated cond memory tags bindings) (λ after. match_from (number + 1) conds memory after.0 after.1)) ≡ true

-- what the rest of the condition elements gives matches, whatever the bindings
abbrev RestPasses : ℕ → List Cond → Memory → Type 0
RestPasses number conds memory = (bindings : Bindings) → AllByRecursion (PassesFrom number conds memory bindings) (tag_lists conds memory bindings)

of_element : (number : ℕ) (cond : Cond) (conds : List Cond) (memory : Memory) (bindings : Bindings) (e : Element) (o : Option Bindings) → element_at memory e.tag ≡ Some e → accepts cond bindings e ≡ o → RestPasses (number + 1) conds memory → AllByRecursion (PassesBy false number cond conds memory bindings) (map (λ (tags : List ℕ). e.tag ∷ tags) (with_bindings (tag_lists conds memory) o))
of_element number cond conds memory bindings e None found accepted rest = tt
of_element number cond conds memory bindings e (Some after) found accepted rest = Each-map (PassesBy false number cond conds memory bindings) (λ (tags : List ℕ). e.tag ∷ tags) (tag_lists conds memory after) (Each-weaker (PassesFrom (number + 1) conds memory after) (λ (tags : List ℕ). PassesBy false number cond conds memory bindings (e.tag ∷ tags)) (λ tags ok. rw (found, accepted) ok) (tag_lists conds memory after) (rest after))

of_negated : (number : ℕ) (cond : Cond) (conds : List Cond) (memory : Memory) (bindings : Bindings) (b : Bool) → RestPasses (number + 1) conds memory → AllByRecursion (λ (tags : List ℕ). is_ok (go_on {A = List ℕ × Bindings} number (only_if (not b) (tags, bindings)) (λ after. match_from (number + 1) conds memory after.0 after.1)) ≡ true) (unless b (tag_lists conds memory) bindings)
of_negated number cond conds memory bindings true rest = tt
of_negated number cond conds memory bindings false rest = rest bindings

by_sign : (negated : Bool) (number : ℕ) (cond : Cond) (conds : List Cond) (memory : Memory) (bindings : Bindings) → AllFound memory memory → RestPasses (number + 1) conds memory → AllByRecursion (PassesBy negated number cond conds memory bindings) (tags_by negated cond memory bindings (tag_lists conds memory))
by_sign true number cond conds memory bindings found rest = of_negated number cond conds memory bindings (accepts_some cond bindings memory) rest
by_sign false number cond conds memory bindings found rest =
    let lists_of : Element → List (List ℕ) = λ e. map (λ (tags : List ℕ). e.tag ∷ tags) (with_bindings (tag_lists conds memory) (accepts cond bindings e)) in
    Each-flat_map (PassesBy false number cond conds memory bindings) lists_of memory (Each-weaker (λ (e : Element). element_at memory e.tag ≡ Some e) (λ (e : Element). AllByRecursion (PassesBy false number cond conds memory bindings) (lists_of e)) (λ e at. of_element number cond conds memory bindings e (accepts cond bindings e) at refl rest) memory found)

-- each list of tags of some condition elements passes their match
each_passes : (number : ℕ) (conds : List Cond) (memory : Memory) → AllFound memory memory → RestPasses number conds memory
each_passes number [] memory found bindings = (refl, tt)
each_passes number (cond ∷ conds) memory found bindings = by_sign cond.negated number cond conds memory bindings found (each_passes (number + 1) conds memory found)

-- in an enumeration each element has its place as its number
pub Each-enumerate_from : {X : Type 0} (get : ℕ → Option X) (first : ℕ) (xs : List X) → ((i : ℕ) → get (first + i) ≡ slice_get xs i) → AllByRecursion (λ (numbered : ℕ × X). get numbered.0 ≡ Some numbered.1) (enumerate_from first xs)
Each-enumerate_from get first [] at = tt
Each-enumerate_from get first (x ∷ xs) at =
    let here : first + 0 ≡ first = omega arith in
    let later : (i : ℕ) → get (first + 1 + i) ≡ slice_get xs i = λ i. let same : first + 1 + i ≡ first + suc i = omega arith in ap get same ∙ at (suc i) in
    (ap get (sym here) ∙ at 0, Each-enumerate_from get (first + 1) xs later)

abbrev AllMatch : Program → Memory → List Choice → Type 0
AllMatch program memory choices = AllByRecursion (λ (c : Choice). matches program memory c ≡ true) choices

of_rule : (program : Program) (memory : Memory) → AllFound memory memory → (numbered : ℕ × Rule) → slice_get program.rules numbered.0 ≡ Some numbered.1 → AllMatch program memory (instantiations memory numbered)
of_rule program memory found numbered at =
    let choice : List ℕ → Choice = λ tags. let c : Choice = record { rule = numbered.0; tags = tags } in c in
    let bindings = no_bindings numbered.1.vars in
    Each-map (λ (c : Choice). matches program memory c ≡ true) choice (tag_lists numbered.1.conds memory bindings) (Each-weaker (PassesFrom 1 numbered.1.conds memory bindings) (λ (tags : List ℕ). matches program memory (choice tags) ≡ true) (λ tags ok. rw at ok) (tag_lists numbered.1.conds memory bindings) (each_passes 1 numbered.1.conds memory found bindings))

-- each choice of the conflict set matches
pub AllMatch-conflict_set : (program : Program) (memory : Memory) → Rises (tags_of memory) → AllByRecursion (λ (c : Choice). matches program memory c ≡ true) (conflict_set program memory)
AllMatch-conflict_set program memory rises =
    let numbered = Each-enumerate_from (slice_get program.rules) 0 program.rules (λ i. let same : 0 + i ≡ i = omega arith in ap (slice_get program.rules) same) in
    Each-flat_map (λ (c : Choice). matches program memory c ≡ true) (instantiations memory) (enumerate_from 0 program.rules) (Each-weaker (λ (n : ℕ × Rule). slice_get program.rules n.0 ≡ Some n.1) (λ (n : ℕ × Rule). AllMatch program memory (instantiations memory n)) (of_rule program memory (AllFound-rising memory rises)) (enumerate_from 0 program.rules) numbered)
