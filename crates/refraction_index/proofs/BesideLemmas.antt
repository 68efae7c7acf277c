-- A match beside further elements: it is the match without them, where they block none of its condition elements.
use Rattle.std.proofs.Common.{◌≡◌, ℕ, ◌+◌, List, [], ◌∷◌, ◌++◌, Bool, true, false, cond, not, ◌&&◌, ◌||◌, ◌==◌, Option, Some, None, Result, inl, inr, is_ok, is_some, option_and_then, option_map, slice_get, refl, sym, ◌∙◌, ap, subst}
use Rattle.std.specs.Prelude.{IsSome}
use Rattle.std.specs.List.{AllByRecursion, find}
use Rattle.std.specs.Option.{option_map_or}
use Rattle.std.proofs.lemmas.List.Folds.{list_any-append}
use Rattle.rule_base.specs.declared.condition.Cond.{Cond}
use Rattle.rule_base.specs.declared.element.Element.{Element}
use Rattle.rule_base.specs.declared.instantiation.Choice.{Choice}
use Rattle.rule_base.specs.declared.program.Rule.{Rule}
use Rattle.rule_base.specs.declared.program.Program.{Program}
use Rattle.rule_base.specs.Chains.{only_if}
use Rattle.rule_base.specs.Memory.{Memory, Rises, element_at, tags_of}
use Rattle.rule_base.specs.Bindings.{Bindings, no_bindings}
use Rattle.rule_base.specs.Acceptance.{accepts}
use Rattle.rule_base.specs.Match.{accepts_some, after_cond, after_positive, go_on, match_from, match_of}
use Rattle.rule_base.specs.Step.{matches}
use Rattle.rule_base.proofs.AmongLemmas.{Among}
use Rattle.rule_base.proofs.EachLemmas.{Each-weaker}
use Rattle.rule_base.proofs.MemoryLemmas.{AllFound-rising}
use Rattle.rule_base.proofs.TakenLemmas.{Each-matches}
use Rattle.refraction_index.specs.Beside.{AreThere, blocks_none, blocks_none_by, blocks_none_from}

-- these tags have the same elements in both memories
abbrev pub AreSame : Memory → Memory → List ℕ → Type 0
AreSame memory other tags = AllByRecursion (λ tag. element_at memory tag ≡ element_at other tag) tags

-- an element that is there stays the one that is found where others follow
found_first : {X : Type 0} (b : Bool) (x : X) (rest more : Option X) → is_some (cond b (Some x) rest) ≡ true → (is_some rest ≡ true → more ≡ rest) → cond b (Some x) more ≡ cond b (Some x) rest
found_first true x rest more found later = refl
found_first false x rest more found later = later found

find-append : {X : Type 0} (p : X → Bool) (xs ys : List X) → is_some (find p xs) ≡ true → find p (xs ++ ys) ≡ find p xs
find-append p [] ys found = absurd (let wrong : ⊥ = cc in wrong)
find-append p (x ∷ xs) ys found = found_first (p x) x (find p xs) (find p (xs ++ ys)) found (find-append p xs ys)

pub AreSame-append : (memory more : Memory) (tags : List ℕ) → AreThere memory tags → AreSame memory (memory ++ more) tags
AreSame-append memory more [] there = tt
AreSame-append memory more (tag ∷ tags) there = (sym (find-append (λ (e : Element). e.tag == tag) memory more there.0), AreSame-append memory more tags there.1)

AreSame-itself : (memory : Memory) (tags : List ℕ) → AreSame memory memory tags
AreSame-itself memory [] = tt
AreSame-itself memory (tag ∷ tags) = (refl, AreSame-itself memory tags)

-- one condition element before others: a negated one is passed over, and a positive one must hold
abbrev takes_by : Bool → Cond → Memory → List ℕ → Bindings → (List ℕ → Bindings → Bool) → Bool
takes_by true first memory tags bindings behind = behind tags bindings
takes_by false first memory tags bindings behind =
    option_map_or (λ (after : List ℕ × Bindings). behind after.0 after.1) (after_positive first memory tags bindings) false

-- the positive condition elements match with these tags
abbrev takes : List Cond → Memory → List ℕ → Bindings → Bool
takes [] memory [] bindings = true
takes [] memory (tag ∷ tags) bindings = false
takes (first ∷ conds) memory tags bindings = takes_by first.negated first memory tags bindings (λ rest after. takes conds memory rest after)

-- what follows the first condition element, where it holds
abbrev after_first : ℕ → List Cond → Memory → List ℕ × Bindings → Result Bindings ℕ
after_first number conds memory after = match_from (number + 1) conds memory after.0 after.1

-- these condition elements match in a memory with tags whose elements are the same in another: the positive ones take the
-- tags in the other, and the memory blocks none
abbrev RestComesApart : ℕ → List Cond → Memory → Memory → Type 0
RestComesApart number conds memory other = (tags : List ℕ) (bindings : Bindings) → AreSame memory other tags → is_ok (match_from number conds other tags bindings) ≡ (takes conds memory tags bindings && blocks_none_from conds memory other tags bindings)

never_both : (b : Bool) → false ≡ (b && false)
never_both true = refl
never_both false = refl

apart_negated : (number : ℕ) (conds : List Cond) (memory other : Memory) (tags : List ℕ) (bindings : Bindings) (b : Bool) → AreSame memory other tags → RestComesApart (number + 1) conds memory other → is_ok (go_on {A = List ℕ × Bindings} number (only_if (not b) (tags, bindings)) (after_first number conds other)) ≡ (takes conds memory tags bindings && (not b && blocks_none_from conds memory other tags bindings))
apart_negated number conds memory other tags bindings true same rest = never_both (takes conds memory tags bindings)
apart_negated number conds memory other tags bindings false same rest = rest tags bindings same

apart_accepted : (number : ℕ) (conds : List Cond) (memory other : Memory) (tags : List ℕ) (o : Option Bindings) → AreSame memory other tags → RestComesApart (number + 1) conds memory other → is_ok (go_on {A = List ℕ × Bindings} number (option_map (λ after. (tags, after)) o) (after_first number conds other)) ≡ (option_map_or (λ (after : List ℕ × Bindings). takes conds memory after.0 after.1) (option_map (λ after. (tags, after)) o) false && option_map_or (λ (after : List ℕ × Bindings). blocks_none_from conds memory other after.0 after.1) (option_map (λ after. (tags, after)) o) true)
apart_accepted number conds memory other tags None same rest = refl
apart_accepted number conds memory other tags (Some after) same rest = rest tags after same

apart_by : (negated : Bool) (number : ℕ) (first : Cond) (conds : List Cond) (memory other : Memory) (tags : List ℕ) (bindings : Bindings) → AreSame memory other tags → RestComesApart (number + 1) conds memory other → is_ok (go_on number (after_cond negated first other tags bindings) (after_first number conds other)) ≡ (takes_by negated first memory tags bindings (λ rest after. takes conds memory rest after) && blocks_none_by negated first memory other tags bindings (λ rest after. blocks_none_from conds memory other rest after))
apart_by true number first conds memory other tags bindings same rest = apart_negated number conds memory other tags bindings (accepts_some first bindings other) same rest
apart_by false number first conds memory other [] bindings same rest = refl
apart_by false number first conds memory other (tag ∷ tags) bindings same rest =
    ap (λ (o : Option Element). is_ok (go_on {A = List ℕ × Bindings} number (option_map (λ after. (tags, after)) (option_and_then (accepts first bindings) o)) (after_first number conds other))) (sym same.0)
    ∙ apart_accepted number conds memory other tags (option_and_then (accepts first bindings) (element_at memory tag)) same.1 rest

comes_apart : (number : ℕ) (conds : List Cond) (memory other : Memory) → RestComesApart number conds memory other
comes_apart number [] memory other [] bindings same = refl
comes_apart number [] memory other (tag ∷ tags) bindings same = refl
comes_apart number (first ∷ conds) memory other tags bindings same = apart_by first.negated number first conds memory other tags bindings same (comes_apart (number + 1) conds memory other)

-- whether further elements block none goes by the tags' elements alone
same_negated : (b x y : Bool) → x ≡ y → (not b && x) ≡ (not b && y)
same_negated b x y same = ap (λ z. not b && z) same

abbrev pub RestIsSame : List Cond → Memory → Memory → Memory → Type 0
RestIsSame conds memory other more = (tags : List ℕ) (bindings : Bindings) → AreSame memory other tags → blocks_none_from conds memory more tags bindings ≡ blocks_none_from conds other more tags bindings

same_accepted : (conds : List Cond) (memory other more : Memory) (tags : List ℕ) (o : Option Bindings) → AreSame memory other tags → RestIsSame conds memory other more → option_map_or (λ (after : List ℕ × Bindings). blocks_none_from conds memory more after.0 after.1) (option_map (λ after. (tags, after)) o) true ≡ option_map_or (λ (after : List ℕ × Bindings). blocks_none_from conds other more after.0 after.1) (option_map (λ after. (tags, after)) o) true
same_accepted conds memory other more tags None same rest = refl
same_accepted conds memory other more tags (Some after) same rest = rest tags after same

same_by : (negated : Bool) (first : Cond) (conds : List Cond) (memory other more : Memory) (tags : List ℕ) (bindings : Bindings) → AreSame memory other tags → RestIsSame conds memory other more → blocks_none_by negated first memory more tags bindings (λ rest after. blocks_none_from conds memory more rest after) ≡ blocks_none_by negated first other more tags bindings (λ rest after. blocks_none_from conds other more rest after)
same_by true first conds memory other more tags bindings same rest = same_negated (accepts_some first bindings more) (blocks_none_from conds memory more tags bindings) (blocks_none_from conds other more tags bindings) (rest tags bindings same)
same_by false first conds memory other more [] bindings same rest = refl
same_by false first conds memory other more (tag ∷ tags) bindings same rest =
    same_accepted conds memory other more tags (option_and_then (accepts first bindings) (element_at memory tag)) same.1 rest
    ∙ ap (λ (o : Option Element). option_map_or (λ (after : List ℕ × Bindings). blocks_none_from conds other more after.0 after.1) (option_map (λ after. (tags, after)) (option_and_then (accepts first bindings) o)) true) same.0

pub blocks_none_from-same : (conds : List Cond) (memory other more : Memory) → RestIsSame conds memory other more
blocks_none_from-same [] memory other more tags bindings same = refl
blocks_none_from-same (first ∷ conds) memory other more tags bindings same = same_by first.negated first conds memory other more tags bindings same (blocks_none_from-same conds memory other more)

-- two lists of further elements block none where neither does
both_negated : (a b x y : Bool) → (not (a || b) && (x && y)) ≡ ((not a && x) && (not b && y))
both_negated true b x y = refl
both_negated false true true y = refl
both_negated false true false y = refl
both_negated false false x y = refl

append_accepted : (conds : List Cond) (memory more others : Memory) (o : Option (List ℕ × Bindings)) → ((tags : List ℕ) (bindings : Bindings) → blocks_none_from conds memory (more ++ others) tags bindings ≡ (blocks_none_from conds memory more tags bindings && blocks_none_from conds memory others tags bindings)) → option_map_or (λ (after : List ℕ × Bindings). blocks_none_from conds memory (more ++ others) after.0 after.1) o true ≡ (option_map_or (λ (after : List ℕ × Bindings). blocks_none_from conds memory more after.0 after.1) o true && option_map_or (λ (after : List ℕ × Bindings). blocks_none_from conds memory others after.0 after.1) o true)
append_accepted conds memory more others None rest = refl
append_accepted conds memory more others (Some after) rest = rest after.0 after.1

append_by : (negated : Bool) (first : Cond) (conds : List Cond) (memory more others : Memory) (tags : List ℕ) (bindings : Bindings) → ((tags : List ℕ) (bindings : Bindings) → blocks_none_from conds memory (more ++ others) tags bindings ≡ (blocks_none_from conds memory more tags bindings && blocks_none_from conds memory others tags bindings))
    → blocks_none_by negated first memory (more ++ others) tags bindings (λ rest after. blocks_none_from conds memory (more ++ others) rest after) ≡ (blocks_none_by negated first memory more tags bindings (λ rest after. blocks_none_from conds memory more rest after) && blocks_none_by negated first memory others tags bindings (λ rest after. blocks_none_from conds memory others rest after))
append_by true first conds memory more others tags bindings rest =
    ap (λ b. not b && blocks_none_from conds memory (more ++ others) tags bindings) (list_any-append (λ (e : Element). is_some (accepts first bindings e)) more others)
    ∙ ap (λ b. not (accepts_some first bindings more || accepts_some first bindings others) && b) (rest tags bindings)
    ∙ both_negated (accepts_some first bindings more) (accepts_some first bindings others) (blocks_none_from conds memory more tags bindings) (blocks_none_from conds memory others tags bindings)
append_by false first conds memory more others tags bindings rest = append_accepted conds memory more others (after_positive first memory tags bindings) rest

pub blocks_none_from-append : (conds : List Cond) (memory more others : Memory) (tags : List ℕ) (bindings : Bindings) → blocks_none_from conds memory (more ++ others) tags bindings ≡ (blocks_none_from conds memory more tags bindings && blocks_none_from conds memory others tags bindings)
blocks_none_from-append [] memory more others tags bindings = refl
blocks_none_from-append (first ∷ conds) memory more others tags bindings = append_by first.negated first conds memory more others tags bindings (blocks_none_from-append conds memory more others)

-- no elements block none
nothing_accepted : (conds : List Cond) (memory : Memory) (o : Option (List ℕ × Bindings)) → ((tags : List ℕ) (bindings : Bindings) → blocks_none_from conds memory [] tags bindings ≡ true) → option_map_or (λ (after : List ℕ × Bindings). blocks_none_from conds memory [] after.0 after.1) o true ≡ true
nothing_accepted conds memory None rest = refl
nothing_accepted conds memory (Some after) rest = rest after.0 after.1

nothing_by : (negated : Bool) (first : Cond) (conds : List Cond) (memory : Memory) (tags : List ℕ) (bindings : Bindings) → ((tags : List ℕ) (bindings : Bindings) → blocks_none_from conds memory [] tags bindings ≡ true) → blocks_none_by negated first memory [] tags bindings (λ rest after. blocks_none_from conds memory [] rest after) ≡ true
nothing_by true first conds memory tags bindings rest = rest tags bindings
nothing_by false first conds memory tags bindings rest = nothing_accepted conds memory (after_positive first memory tags bindings) rest

pub blocks_none_from-nothing : (conds : List Cond) (memory : Memory) (tags : List ℕ) (bindings : Bindings) → blocks_none_from conds memory [] tags bindings ≡ true
blocks_none_from-nothing [] memory tags bindings = refl
blocks_none_from-nothing (first ∷ conds) memory tags bindings = nothing_by first.negated first conds memory tags bindings (blocks_none_from-nothing conds memory)

-- a match beside further elements
regroup : (t a b : Bool) (m : Bool) → m ≡ (t && a) → (t && (a && b)) ≡ (m && b)
regroup true a b m same = ap (λ z. z && b) (sym same)
regroup false a b m same = ap (λ z. z && b) (sym same)

pub match_from-append : (number : ℕ) (conds : List Cond) (memory more : Memory) (tags : List ℕ) (bindings : Bindings) → AreThere memory tags → is_ok (match_from number conds (memory ++ more) tags bindings) ≡ (is_ok (match_from number conds memory tags bindings) && blocks_none_from conds memory more tags bindings)
match_from-append number conds memory more tags bindings there =
    comes_apart number conds memory (memory ++ more) tags bindings (AreSame-append memory more tags there)
    ∙ ap (λ b. takes conds memory tags bindings && b) (blocks_none_from-append conds memory memory more tags bindings)
    ∙ regroup (takes conds memory tags bindings) (blocks_none_from conds memory memory tags bindings) (blocks_none_from conds memory more tags bindings) (is_ok (match_from number conds memory tags bindings)) (comes_apart number conds memory memory tags bindings (AreSame-itself memory tags))

-- the same of choices

of_rule : (c : Choice) (memory more : Memory) (o : Option Rule) → AreThere memory c.tags → option_map_or (λ (rule : Rule). is_ok (match_of rule c.tags (memory ++ more))) o false ≡ (option_map_or (λ (rule : Rule). is_ok (match_of rule c.tags memory)) o false && option_map_or (λ (rule : Rule). blocks_none_from rule.conds memory more c.tags (no_bindings rule.vars)) o true)
of_rule c memory more None there = refl
of_rule c memory more (Some rule) there = match_from-append 1 rule.conds memory more c.tags (no_bindings rule.vars) there

pub matches-append : (program : Program) (memory more : Memory) (c : Choice) → AreThere memory c.tags → matches program (memory ++ more) c ≡ (matches program memory c && blocks_none program memory more c)
matches-append program memory more c there = of_rule c memory more (slice_get program.rules c.rule) there

-- a choice that matches is blocked by none of the elements beside which it does
pub first_of_both : (a b : Bool) → (a && b) ≡ true → a ≡ true
first_of_both true b is = refl
first_of_both false b is = is

pub second_of_both : (a b : Bool) → (a && b) ≡ true → b ≡ true
second_of_both true b is = is
second_of_both false b is = absurd (let wrong : ⊥ = cc in wrong)

unblocked_rule : (c : Choice) (memory : Memory) (o : Option Rule) → option_map_or (λ (rule : Rule). is_ok (match_of rule c.tags memory)) o false ≡ true → option_map_or (λ (rule : Rule). blocks_none_from rule.conds memory memory c.tags (no_bindings rule.vars)) o true ≡ true
unblocked_rule c memory None ok = refl
unblocked_rule c memory (Some rule) ok =
    let bindings = no_bindings rule.vars in
    second_of_both (takes rule.conds memory c.tags bindings) (blocks_none_from rule.conds memory memory c.tags bindings) (sym (comes_apart 1 rule.conds memory memory c.tags bindings (AreSame-itself memory c.tags)) ∙ ok)

pub blocks_none-itself : (program : Program) (memory : Memory) (c : Choice) → matches program memory c ≡ true → blocks_none program memory memory c ≡ true
blocks_none-itself program memory c ok = unblocked_rule c memory (slice_get program.rules c.rule) ok

-- and it matches in another memory with its elements where that blocks none of it
elsewhere_rule : (c : Choice) (memory other : Memory) (o : Option Rule) → AreSame memory other c.tags → option_map_or (λ (rule : Rule). is_ok (match_of rule c.tags memory)) o false ≡ true → option_map_or (λ (rule : Rule). blocks_none_from rule.conds memory other c.tags (no_bindings rule.vars)) o true ≡ true → option_map_or (λ (rule : Rule). is_ok (match_of rule c.tags other)) o false ≡ true
elsewhere_rule c memory other None same ok free = ok
elsewhere_rule c memory other (Some rule) same ok free =
    let bindings = no_bindings rule.vars in
    let taken : takes rule.conds memory c.tags bindings ≡ true =
    first_of_both (takes rule.conds memory c.tags bindings) (blocks_none_from rule.conds memory memory c.tags bindings) (sym (comes_apart 1 rule.conds memory memory c.tags bindings (AreSame-itself memory c.tags)) ∙ ok) in
    comes_apart 1 rule.conds memory other c.tags bindings same
    ∙ ap (λ b. b && blocks_none_from rule.conds memory other c.tags bindings) taken
    ∙ free

pub matches-elsewhere : (program : Program) (memory other : Memory) (c : Choice) → AreSame memory other c.tags → matches program memory c ≡ true → blocks_none program memory other c ≡ true → matches program other c ≡ true
matches-elsewhere program memory other c same ok free = elsewhere_rule c memory other (slice_get program.rules c.rule) same ok free

-- whether further elements block none goes by the choice's elements alone
same_rule : (c : Choice) (memory other more : Memory) (o : Option Rule) → AreSame memory other c.tags → option_map_or (λ (rule : Rule). blocks_none_from rule.conds memory more c.tags (no_bindings rule.vars)) o true ≡ option_map_or (λ (rule : Rule). blocks_none_from rule.conds other more c.tags (no_bindings rule.vars)) o true
same_rule c memory other more None same = refl
same_rule c memory other more (Some rule) same = blocks_none_from-same rule.conds memory other more c.tags (no_bindings rule.vars) same

pub blocks_none-same : (program : Program) (memory other more : Memory) (c : Choice) → AreSame memory other c.tags → blocks_none program memory more c ≡ blocks_none program other more c
blocks_none-same program memory other more c same = same_rule c memory other more (slice_get program.rules c.rule) same

append_rule : (c : Choice) (memory more others : Memory) (o : Option Rule) → option_map_or (λ (rule : Rule). blocks_none_from rule.conds memory (more ++ others) c.tags (no_bindings rule.vars)) o true ≡ (option_map_or (λ (rule : Rule). blocks_none_from rule.conds memory more c.tags (no_bindings rule.vars)) o true && option_map_or (λ (rule : Rule). blocks_none_from rule.conds memory others c.tags (no_bindings rule.vars)) o true)
append_rule c memory more others None = refl
append_rule c memory more others (Some rule) = blocks_none_from-append rule.conds memory more others c.tags (no_bindings rule.vars)

pub blocks_none-append : (program : Program) (memory more others : Memory) (c : Choice) → blocks_none program memory (more ++ others) c ≡ (blocks_none program memory more c && blocks_none program memory others c)
blocks_none-append program memory more others c = append_rule c memory more others (slice_get program.rules c.rule)

nothing_rule : (c : Choice) (memory : Memory) (o : Option Rule) → option_map_or (λ (rule : Rule). blocks_none_from rule.conds memory [] c.tags (no_bindings rule.vars)) o true ≡ true
nothing_rule c memory None = refl
nothing_rule c memory (Some rule) = blocks_none_from-nothing rule.conds memory c.tags (no_bindings rule.vars)

pub blocks_none-nothing : (program : Program) (memory : Memory) (c : Choice) → blocks_none program memory [] c ≡ true
blocks_none-nothing program memory c = nothing_rule c memory (slice_get program.rules c.rule)

-- fewer elements block none where all do
one_of_more : (program : Program) (memory more : Memory) (c : Choice) (e : Element) → Among e more → blocks_none program memory more c ≡ true → blocks_none program memory (e ∷ []) c ≡ true
one_of_more program memory [] c e among free = absurd among
one_of_more program memory (x ∷ more) c e (inl same) free =
    ap (λ y. blocks_none program memory (y ∷ []) c) same
    ∙ first_of_both (blocks_none program memory (x ∷ []) c) (blocks_none program memory more c) (sym (blocks_none-append program memory (x ∷ []) more c) ∙ free)
one_of_more program memory (x ∷ more) c e (inr later) free =
    one_of_more program memory more c e later (second_of_both (blocks_none program memory (x ∷ []) c) (blocks_none program memory more c) (sym (blocks_none-append program memory (x ∷ []) more c) ∙ free))

pub blocks_none-fewer : (program : Program) (memory more fewer : Memory) (c : Choice) → AllByRecursion (λ (e : Element). Among e more) fewer → blocks_none program memory more c ≡ true → blocks_none program memory fewer c ≡ true
blocks_none-fewer program memory more [] c among free = blocks_none-nothing program memory c
blocks_none-fewer program memory more (e ∷ fewer) c among free =
    blocks_none-append program memory (e ∷ []) fewer c
    ∙ ap (λ b. b && blocks_none program memory fewer c) (one_of_more program memory more c e among.0 free)
    ∙ blocks_none-fewer program memory more fewer c among.1 free

-- the tags of a choice that matches have their elements
pub AreThere-matches : (program : Program) (memory : Memory) (c : Choice) → Rises (tags_of memory) → matches program memory c ≡ true → AreThere memory c.tags
AreThere-matches program memory c rises ok =
    Each-matches (λ tag. IsSome (element_at memory tag)) program memory c (Each-weaker (λ (e : Element). element_at memory e.tag ≡ Some e) (λ (e : Element). IsSome (element_at memory e.tag)) (λ e at. some_at e.tag e at) memory (AllFound-rising memory rises)) ok
  where
    some_at : (tag : ℕ) (e : Element) → element_at memory tag ≡ Some e → IsSome (element_at memory tag)
    some_at tag e at = subst (λ (o : Option Element). IsSome o) (sym at) refl

-- so it matches beside further elements where they block none of its condition elements
pub matches-beside : (program : Program) (memory more : Memory) (c : Choice) → Rises (tags_of memory) → matches program memory c ≡ true → matches program (memory ++ more) c ≡ blocks_none program memory more c
matches-beside program memory more c rises ok =
    matches-append program memory more c (AreThere-matches program memory c rises ok) ∙ ap (λ b. b && blocks_none program memory more c) ok
