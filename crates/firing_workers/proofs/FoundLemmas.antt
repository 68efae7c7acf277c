-- Memories of elements that came: each element is found at its tag, so that each choice of the conflict set matches.
use Rattle.std.proofs.Common.{◌≡◌, ℕ, ◌+◌, ◌==◌, ◌⊎◌, inl, inr, List, [], ◌∷◌, Bool, true, false, cond, not, Option, None, Some, is_ok, map, slice_get, refl, ap, sym, ◌∙◌, arith}
use Rattle.std.specs.List.{AllByRecursion, cons_option, enumerate_from}
use Rattle.std.proofs.lemmas.Bool.{eq-eqb, eqb-true, or_cases, or_left, or_right}
use Rattle.rule_base.specs.declared.condition.Cond.{Cond}
use Rattle.rule_base.specs.declared.element.Element.{Element}
use Rattle.rule_base.specs.declared.instantiation.Choice.{Choice}
use Rattle.rule_base.specs.declared.program.Program.{Program}
use Rattle.rule_base.specs.declared.program.Rule.{Rule}
use Rattle.rule_base.specs.Acceptance.{accepts}
use Rattle.rule_base.specs.Bindings.{Bindings, no_bindings}
use Rattle.rule_base.specs.Chains.{only_if}
use Rattle.rule_base.specs.ConflictSet.{conflict_set, instantiations, tag_lists, tags_by, unless, with_bindings}
use Rattle.rule_base.specs.Match.{accepts_some, after_cond, go_on, match_from}
use Rattle.rule_base.specs.Memory.{Memory, Rises, element_at, tags_of}
use Rattle.rule_base.specs.Numbers.{has_number}
use Rattle.rule_base.specs.Step.{matches}
use Rattle.rule_base.proofs.ConflictSetLemmas.{Each-enumerate_from}
use Rattle.rule_base.proofs.EachLemmas.{Each-flat_map, Each-map, Each-weaker}
use Rattle.rule_base.proofs.MemoryLemmas.{AllFound}
use Rattle.match_network.specs.Arrivals.{has_tag}
use Rattle.match_network.specs.Row.{elements_of, some_passes}
use Rattle.match_network.proofs.TagLemmas.{has_tag_only}

-- no two elements that came have one tag
tagged_is : (came : List Element) (p q : ℕ) (e : Element) → Rises (tags_of came) → slice_get came p ≡ Some e → has_tag came e.tag q ≡ true → slice_get came q ≡ Some e
tagged_is came p q e rises there has =
    let tagged : has_tag came e.tag p ≡ true = ap (some_passes (λ (x : Element). x.tag == e.tag)) there ∙ eq-eqb e.tag e.tag refl in
    let same : q ≡ p = eqb-true q p (sym (has_tag_only came e.tag p q rises tagged) ∙ has) in
    ap (slice_get came) same ∙ there

found_by_tag : (came : List Element) (places : List ℕ) (p q : ℕ) (e x : Element) (b : Bool) → (x.tag == e.tag) ≡ b → slice_get came q ≡ Some x → Rises (tags_of came) → slice_get came p ≡ Some e → ((q == p) ≡ true) ⊎ (element_at (elements_of came places) e.tag ≡ Some e) → cond b (Some x) (element_at (elements_of came places) e.tag) ≡ Some e
found_by_tag came places p q e x true is at rises there either = sym at ∙ tagged_is came p q e rises there (ap (some_passes (λ (y : Element). y.tag == e.tag)) at ∙ is)
found_by_tag came places p q e x false is at rises there (inr later) = later
found_by_tag came places p q e x false is at rises there (inl same) =
    let both : Some x ≡ Some e = sym at ∙ ap (slice_get came) (eqb-true q p same) ∙ there in
    let this : x ≡ e = cc in
    let wrong : true ≡ false = sym (eq-eqb x.tag e.tag (ap (λ (y : Element). y.tag) this)) ∙ is in
    absurd (let clash : ⊥ = cc in clash)

found_step : (came : List Element) (places : List ℕ) (p q : ℕ) (e : Element) (found : Option Element) → slice_get came q ≡ found → Rises (tags_of came) → slice_get came p ≡ Some e → ((q == p) ≡ true) ⊎ (element_at (elements_of came places) e.tag ≡ Some e) → element_at (cons_option found (elements_of came places)) e.tag ≡ Some e
found_step came places p q e None at rises there (inl same) =
    let wrong : None ≡ Some e = sym at ∙ ap (slice_get came) (eqb-true q p same) ∙ there in
    absurd (let clash : ⊥ = cc in clash)
found_step came places p q e None at rises there (inr later) = later
found_step came places p q e (Some x) at rises there either = found_by_tag came places p q e x (x.tag == e.tag) refl at rises there either

found_at : (came : List Element) (places : List ℕ) (p : ℕ) (e : Element) → Rises (tags_of came) → slice_get came p ≡ Some e → has_number places p ≡ true → element_at (elements_of came places) e.tag ≡ Some e
found_at came [] p e rises there has = absurd (let wrong : ⊥ = cc in wrong)
found_at came (q ∷ places) p e rises there has =
    found_step came places p q e (slice_get came q) refl rises there
    (elim (or_cases (q == p) (has_number places p) has) [
      | inl same ↦ inl same
      | inr later ↦ inr (found_at came places p e rises there later)
    ])

each_step : (came : List Element) (places : List ℕ) (q : ℕ) (found : Option Element) (rest : List Element) → slice_get came q ≡ found → Rises (tags_of came) → has_number places q ≡ true → AllFound (elements_of came places) rest → AllFound (elements_of came places) (cons_option found rest)
each_step came places q None rest at rises has later = later
each_step came places q (Some e) rest at rises has later = (found_at came places q e rises at has, later)

each_found : (came : List Element) (places some : List ℕ) → Rises (tags_of came) → ((q : ℕ) → has_number some q ≡ true → has_number places q ≡ true) → AllFound (elements_of came places) (elements_of came some)
each_found came places [] rises among = tt
each_found came places (q ∷ some) rises among =
    each_step came places q (slice_get came q) (elements_of came some) refl rises (among q (or_left (q == q) (has_number some q) (eq-eqb q q refl)))
    (each_found came places some rises (λ p has. among p (or_right (q == p) (has_number some p) has)))

-- the condition elements from this number on match with these tags
abbrev PassesFrom : ℕ → List Cond → Memory → Bindings → List ℕ → Type 0
PassesFrom number conds memory bindings tags = is_ok (match_from number conds memory tags bindings) ≡ true

-- the same where the first of them has this sign
abbrev PassesBy : Bool → ℕ → Cond → List Cond → Memory → Bindings → List ℕ → Type 0
PassesBy negated number cond conds memory bindings tags = is_ok (go_on number (after_cond negated cond memory tags bindings) (λ after. match_from (number + 1) conds memory after.0 after.1)) ≡ true

abbrev RestPasses : ℕ → List Cond → Memory → Type 0
RestPasses number conds memory = (bindings : Bindings) → AllByRecursion (PassesFrom number conds memory bindings) (tag_lists conds memory bindings)

of_element : (number : ℕ) (cond : Cond) (conds : List Cond) (memory : Memory) (bindings : Bindings) (e : Element) (o : Option Bindings) → element_at memory e.tag ≡ Some e → accepts cond bindings e ≡ o → RestPasses (number + 1) conds memory → AllByRecursion (PassesBy false number cond conds memory bindings) (map (λ (tags : List ℕ). e.tag ∷ tags) (with_bindings (tag_lists conds memory) o))
of_element number cond conds memory bindings e None found accepted rest = tt
of_element number cond conds memory bindings e (Some after) found accepted rest =
    Each-map (PassesBy false number cond conds memory bindings) (λ (tags : List ℕ). e.tag ∷ tags) (tag_lists conds memory after)
    (Each-weaker (PassesFrom (number + 1) conds memory after) (λ (tags : List ℕ). PassesBy false number cond conds memory bindings (e.tag ∷ tags)) (λ tags ok. rw (found, accepted) ok) (tag_lists conds memory after) (rest after))

of_negated : (number : ℕ) (cond : Cond) (conds : List Cond) (memory : Memory) (bindings : Bindings) (b : Bool) → RestPasses (number + 1) conds memory → AllByRecursion (λ (tags : List ℕ). is_ok (go_on {A = List ℕ × Bindings} number (only_if (not b) (tags, bindings)) (λ after. match_from (number + 1) conds memory after.0 after.1)) ≡ true) (unless b (tag_lists conds memory) bindings)
of_negated number cond conds memory bindings true rest = tt
of_negated number cond conds memory bindings false rest = rest bindings

by_sign : (negated : Bool) (number : ℕ) (cond : Cond) (conds : List Cond) (memory : Memory) (bindings : Bindings) → AllFound memory memory → RestPasses (number + 1) conds memory → AllByRecursion (PassesBy negated number cond conds memory bindings) (tags_by negated cond memory bindings (tag_lists conds memory))
by_sign true number cond conds memory bindings found rest = of_negated number cond conds memory bindings (accepts_some cond bindings memory) rest
by_sign false number cond conds memory bindings found rest =
    let lists_of : Element → List (List ℕ) = λ e. map (λ (tags : List ℕ). e.tag ∷ tags) (with_bindings (tag_lists conds memory) (accepts cond bindings e)) in
    Each-flat_map (PassesBy false number cond conds memory bindings) lists_of memory
    (Each-weaker (λ (e : Element). element_at memory e.tag ≡ Some e) (λ (e : Element). AllByRecursion (PassesBy false number cond conds memory bindings) (lists_of e)) (λ e at. of_element number cond conds memory bindings e (accepts cond bindings e) at refl rest) memory found)

each_passes : (number : ℕ) (conds : List Cond) (memory : Memory) → AllFound memory memory → RestPasses number conds memory
each_passes number [] memory found bindings = (refl, tt)
each_passes number (cond ∷ conds) memory found bindings = by_sign cond.negated number cond conds memory bindings found (each_passes (number + 1) conds memory found)

abbrev AllMatch : Program → Memory → List Choice → Type 0
AllMatch program memory choices = AllByRecursion (λ (c : Choice). matches program memory c ≡ true) choices

of_rule : (program : Program) (memory : Memory) → AllFound memory memory → (numbered : ℕ × Rule) → slice_get program.rules numbered.0 ≡ Some numbered.1 → AllMatch program memory (instantiations memory numbered)
of_rule program memory found numbered at =
    let choice : List ℕ → Choice = λ tags. let c : Choice = record { rule = numbered.0; tags = tags } in c in
    let bindings = no_bindings numbered.1.vars in
    Each-map (λ (c : Choice). matches program memory c ≡ true) choice (tag_lists numbered.1.conds memory bindings)
    (Each-weaker (PassesFrom 1 numbered.1.conds memory bindings) (λ (tags : List ℕ). matches program memory (choice tags) ≡ true) (λ tags ok. rw at ok) (tag_lists numbered.1.conds memory bindings) (each_passes 1 numbered.1.conds memory found bindings))

AllMatch-found : (program : Program) (memory : Memory) → AllFound memory memory → AllMatch program memory (conflict_set program memory)
AllMatch-found program memory found =
    let numbered = Each-enumerate_from (slice_get program.rules) 0 program.rules (λ i. let same : 0 + i ≡ i = omega arith in ap (slice_get program.rules) same) in
    Each-flat_map (λ (c : Choice). matches program memory c ≡ true) (instantiations memory) (enumerate_from 0 program.rules)
    (Each-weaker (λ (n : ℕ × Rule). slice_get program.rules n.0 ≡ Some n.1) (λ (n : ℕ × Rule). AllMatch program memory (instantiations memory n)) (of_rule program memory found) (enumerate_from 0 program.rules) numbered)

-- each choice of the conflict set matches, also where places don't rise
pub AllMatch-came : (program : Program) (came : List Element) (places : List ℕ) → Rises (tags_of came) → AllByRecursion (λ (c : Choice). matches program (elements_of came places) c ≡ true) (conflict_set program (elements_of came places))
AllMatch-came program came places rises = AllMatch-found program (elements_of came places) (each_found came places places rises (λ q has. has))
