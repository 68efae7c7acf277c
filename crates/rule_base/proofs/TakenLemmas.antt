-- The tags of a match: there is one for each positive condition element, and each is an element's.
use Rattle.std.proofs.Common.{◌≡◌, ℕ, ◌+◌, List, [], ◌∷◌, Bool, true, false, not, cond, ◌==◌, Option, Some, None, Result, Ok, Err, is_ok, length, map, option_and_then, option_map, slice_get, refl, ◌∙◌, ap, subst, arith}
use Rattle.std.specs.List.{AllByRecursion, filter}
use Rattle.std.specs.Option.{option_map_or}
use Rattle.std.proofs.lemmas.Bool.Decides.{Decides-eqb}
use Rattle.rule_base.specs.declared.condition.Cond.{Cond}
use Rattle.rule_base.specs.declared.element.Element.{Element}
use Rattle.rule_base.specs.declared.instantiation.Choice.{Choice}
use Rattle.rule_base.specs.declared.program.Rule.{Rule}
use Rattle.rule_base.specs.declared.program.Program.{Program}
use Rattle.rule_base.specs.Chains.{only_if}
use Rattle.rule_base.specs.Memory.{Memory, element_at}
use Rattle.rule_base.specs.Bindings.{Bindings, no_bindings}
use Rattle.rule_base.specs.Acceptance.{accepts}
use Rattle.rule_base.specs.Match.{accepts_some, after_cond, go_on, match_from, match_of}
use Rattle.rule_base.specs.Sound.{IsSound, IsSoundRule, positive_classes, sizes_of}
use Rattle.rule_base.specs.Step.{matches}
use Rattle.rule_base.specs.Base.{FitsRule, WasGiven}
use Rattle.rule_base.proofs.AmongLemmas.{IsFound-find}
use Rattle.rule_base.proofs.EachLemmas.{Each-find, Each-slice_get}

-- as many tags as there are positive condition elements, and this holds of each
record AreTaken (P : ℕ → Type 0) (positives : ℕ) (tags : List ℕ) : Type 0 where
  count : positives ≡ length tags
  each : AllByRecursion P tags

-- how many positive condition elements there are, where the first has this sign
abbrev positives_by : Bool → List Cond → ℕ
positives_by true conds = length (positive_classes conds)
positives_by false conds = 1 + length (positive_classes conds)

positives_first : (b : Bool) (first : Cond) (conds : List Cond) → positives_by b conds ≡ length (map (λ (c : Cond). c.class) (cond (not b) (first ∷ filter (λ (c : Cond). not c.negated) conds) (filter (λ (c : Cond). not c.negated) conds)))
positives_first true first conds = refl
positives_first false first conds = omega arith

-- what holds of each element's tag holds of each tag that these condition elements match
abbrev RestIsTaken : (ℕ → Type 0) → ℕ → List Cond → Memory → Type 0
RestIsTaken P number conds memory = (tags : List ℕ) (bindings last : Bindings) → match_from number conds memory tags bindings ≡ Ok last → AreTaken P (length (positive_classes conds)) tags

abbrev after_first : ℕ → List Cond → Memory → List ℕ × Bindings → Result Bindings ℕ
after_first number conds memory after = match_from (number + 1) conds memory after.0 after.1

of_negated : (P : ℕ → Type 0) (number : ℕ) (conds : List Cond) (memory : Memory) (tags : List ℕ) (bindings last : Bindings) (b : Bool) → RestIsTaken P (number + 1) conds memory → go_on {A = List ℕ × Bindings} number (only_if (not b) (tags, bindings)) (after_first number conds memory) ≡ Ok last → AreTaken P (length (positive_classes conds)) tags
of_negated P number conds memory tags bindings last true rest ok = absurd (let wrong : ⊥ = cc in wrong)
of_negated P number conds memory tags bindings last false rest ok = rest tags bindings last ok

of_accepted : (P : ℕ → Type 0) (number : ℕ) (conds : List Cond) (memory : Memory) (tag : ℕ) (tags : List ℕ) (last : Bindings) (o : Option Bindings) → P tag → RestIsTaken P (number + 1) conds memory → go_on {A = List ℕ × Bindings} number (option_map (λ after. (tags, after)) o) (after_first number conds memory) ≡ Ok last → AreTaken P (1 + length (positive_classes conds)) (tag ∷ tags)
of_accepted P number conds memory tag tags last None of_tag rest ok = absurd (let wrong : ⊥ = cc in wrong)
of_accepted P number conds memory tag tags last (Some after) of_tag rest ok =
    let taken = rest tags after last ok in
    record { count = omega (arith, taken.count); each = (of_tag, taken.each) }

of_present : (P : ℕ → Type 0) (number : ℕ) (first : Cond) (conds : List Cond) (memory : Memory) (tag : ℕ) (tags : List ℕ) (bindings last : Bindings) (o : Option Element) → ((e : Element) → o ≡ Some e → P tag) → RestIsTaken P (number + 1) conds memory → go_on {A = List ℕ × Bindings} number (option_map (λ after. (tags, after)) (option_and_then (accepts first bindings) o)) (after_first number conds memory) ≡ Ok last → AreTaken P (1 + length (positive_classes conds)) (tag ∷ tags)
of_present P number first conds memory tag tags bindings last None of_tag rest ok = absurd (let wrong : ⊥ = cc in wrong)
of_present P number first conds memory tag tags bindings last (Some e) of_tag rest ok = of_accepted P number conds memory tag tags last (accepts first bindings e) (of_tag e refl) rest ok

by_sign : (P : ℕ → Type 0) (negated : Bool) (number : ℕ) (first : Cond) (conds : List Cond) (memory : Memory) (tags : List ℕ) (bindings last : Bindings) → ((tag : ℕ) (e : Element) → element_at memory tag ≡ Some e → P tag) → RestIsTaken P (number + 1) conds memory → go_on number (after_cond negated first memory tags bindings) (after_first number conds memory) ≡ Ok last → AreTaken P (positives_by negated conds) tags
by_sign P true number first conds memory tags bindings last each rest ok = of_negated P number conds memory tags bindings last (accepts_some first bindings memory) rest ok
by_sign P false number first conds memory [] bindings last each rest ok = absurd (let wrong : ⊥ = cc in wrong)
by_sign P false number first conds memory (tag ∷ tags) bindings last each rest ok = of_present P number first conds memory tag tags bindings last (element_at memory tag) (each tag) rest ok

are_taken : (P : ℕ → Type 0) (number : ℕ) (conds : List Cond) (memory : Memory) → ((tag : ℕ) (e : Element) → element_at memory tag ≡ Some e → P tag) → RestIsTaken P number conds memory
are_taken P number [] memory each [] bindings last ok = record { count = refl; each = tt }
are_taken P number [] memory each (tag ∷ tags) bindings last ok = absurd (let wrong : ⊥ = cc in wrong)
are_taken P number (first ∷ conds) memory each tags bindings last ok =
    subst (λ n. AreTaken P n tags) (positives_first first.negated first conds) (by_sign P first.negated number first conds memory tags bindings last each (are_taken P (number + 1) conds memory each) ok)

-- the element at a tag has that tag
of_tag : (P : ℕ → Type 0) (memory : Memory) → AllByRecursion (λ (e : Element). P e.tag) memory → (tag : ℕ) (e : Element) → element_at memory tag ≡ Some e → P tag
of_tag P memory each tag e at =
    let found = IsFound-find (λ (x : Element). x.tag == tag) memory e at in
    subst P ((Decides-eqb e.tag tag).0 found.passes) (Each-find (λ (x : Element). P x.tag) (λ (x : Element). x.tag == tag) memory e each at)

of_match : (program : Program) (next : ℕ) (memory : Memory) (c : Choice) (rule : Rule) (r : Result Bindings ℕ) → IsSoundRule (sizes_of program.classes) rule → AllByRecursion (λ (e : Element). WasGiven next e.tag) memory → slice_get program.rules c.rule ≡ Some rule → match_of rule c.tags memory ≡ r → is_ok r ≡ true → FitsRule program next c
of_match program next memory c rule (Err n) sound given at is ok = absurd (let wrong : ⊥ = cc in wrong)
of_match program next memory c rule (Ok last) sound given at is ok =
    let taken = are_taken (WasGiven next) 1 rule.conds memory (of_tag (WasGiven next) memory given) c.tags (no_bindings rule.vars) last is in
    record {
      positives = ap (option_map (λ (r : Rule). r.positives)) at ∙ ap (λ n. Some n) (sound.positive_count ∙ taken.count);
      given = taken.each;
    }

of_rule : (program : Program) (next : ℕ) (memory : Memory) (c : Choice) (o : Option Rule) → IsSound program → AllByRecursion (λ (e : Element). WasGiven next e.tag) memory → slice_get program.rules c.rule ≡ o → option_map_or (λ (rule : Rule). is_ok (match_of rule c.tags memory)) o false ≡ true → FitsRule program next c
of_rule program next memory c None sound given at ok = absurd (let wrong : ⊥ = cc in wrong)
of_rule program next memory c (Some rule) sound given at ok = of_match program next memory c rule (match_of rule c.tags memory) (Each-slice_get (IsSoundRule (sizes_of program.classes)) program.rules c.rule rule sound.sound_rules at) given at refl ok

-- a choice that matches fits its rule
pub FitsRule-matches : (program : Program) (next : ℕ) (memory : Memory) (c : Choice) → IsSound program → AllByRecursion (λ (e : Element). WasGiven next e.tag) memory → matches program memory c ≡ true → FitsRule program next c
FitsRule-matches program next memory c sound given ok = of_rule program next memory c (slice_get program.rules c.rule) sound given refl ok

each_of_match : (P : ℕ → Type 0) (memory : Memory) (c : Choice) (rule : Rule) (r : Result Bindings ℕ) → AllByRecursion (λ (e : Element). P e.tag) memory → match_of rule c.tags memory ≡ r → is_ok r ≡ true → AllByRecursion P c.tags
each_of_match P memory c rule (Err n) each is ok = absurd (let wrong : ⊥ = cc in wrong)
each_of_match P memory c rule (Ok last) each is ok = (are_taken P 1 rule.conds memory (of_tag P memory each) c.tags (no_bindings rule.vars) last is).each

each_of_rule : (P : ℕ → Type 0) (memory : Memory) (c : Choice) (o : Option Rule) → AllByRecursion (λ (e : Element). P e.tag) memory → option_map_or (λ (rule : Rule). is_ok (match_of rule c.tags memory)) o false ≡ true → AllByRecursion P c.tags
each_of_rule P memory c None each ok = absurd (let wrong : ⊥ = cc in wrong)
each_of_rule P memory c (Some rule) each ok = each_of_match P memory c rule (match_of rule c.tags memory) each refl ok

-- what holds of each element's tag holds of each tag of a choice that matches
pub Each-matches : (P : ℕ → Type 0) (program : Program) (memory : Memory) (c : Choice) → AllByRecursion (λ (e : Element). P e.tag) memory → matches program memory c ≡ true → AllByRecursion P c.tags
Each-matches P program memory c each ok = each_of_rule P memory c (slice_get program.rules c.rule) each ok
