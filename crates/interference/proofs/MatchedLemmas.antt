-- What the match of a sound rule's choice says of its elements, and of what they give.
use Rattle.std.proofs.Common.{◌≡◌, ℕ, zero, suc, List, [], ◌∷◌, Bool, true, false, cond, not, Option, Some, None, Result, Ok, Err, inl, inr, find, is_ok, is_some, nat_eq, slice_get, unwrap_or, ◌==◌, refl, sym, ◌∙◌, ap, subst, true≢false}
use Rattle.std.specs.List.{AllByRecursion, IsDistinct, cons_option, flat_map, list_any}
use Rattle.std.specs.Option.{option_map_or}
use Rattle.std.proofs.lemmas.Bool.Decides.{Decides-eqb}
use Rattle.std.proofs.lemmas.List.{length-replicate}
use Rattle.rule_base.specs.declared.value.Value.{Value}
use Rattle.rule_base.specs.declared.element.Element.{Element}
use Rattle.rule_base.specs.declared.condition.Test.{Test}
use Rattle.rule_base.specs.declared.condition.Test.TheVariants.{Bind, Cmp, OneOf}
use Rattle.rule_base.specs.declared.condition.Cond.{Cond}
use Rattle.rule_base.specs.declared.instantiation.Choice.{Choice}
use Rattle.rule_base.specs.declared.program.Rule.{Rule}
use Rattle.rule_base.specs.declared.program.Program.{Program}
use Rattle.rule_base.specs.Value.{nil}
use Rattle.rule_base.specs.Memory.{Memory, Rises, element_at, elements_at, tags_of}
use Rattle.rule_base.specs.Bindings.{Bindings, binding_of, no_bindings, value_of}
use Rattle.rule_base.specs.Match.{match_of}
use Rattle.rule_base.specs.ConflictSet.{conflict_set}
use Rattle.rule_base.specs.Sound.{IsSoundRule, bound_variables}
use Rattle.rule_base.specs.State.{same_choice}
use Rattle.rule_base.specs.Step.{is_listed, matches}
use Rattle.rule_base.proofs.AmongLemmas.{Among, IsFound-find}
use Rattle.rule_base.proofs.ChoiceLemmas.{same_choice-equal}
use Rattle.rule_base.proofs.ConflictSetLemmas.{AllMatch-conflict_set}
use Rattle.interference.specs.Given.{first_told, given, positive, taken, told_by, told_by_test, value_at}
use Rattle.interference.proofs.ListLemmas.{Among-list_any, IsAmongOne-flat_map, one_source}
use Rattle.interference.proofs.OptionLemmas.{Gave-some}
use Rattle.interference.proofs.BindingLemmas.{Agrees, Agrees-nothing, HasValue, IsAccepted-accepts}
use Rattle.interference.proofs.GivenLemmas.{Tells-taken, taken_by, vars_of}
use Rattle.interference.proofs.WalkLemmas.{Agrees-walk, IsFull, IsFull-walk, Walks, Walks-match_from, WalksBy, found_on_walk}
use Rattle.interference.proofs.ChangeLemmas.{HasGiven, IsPaired}
use Rattle.interference.proofs.PinLemmas.{BindsOthers}

-- a choice in the conflict set matches
of_listed : (P : Choice → Type 0) (c d : Choice) (choices : List Choice) (b : Bool) → same_choice c d ≡ b → P d → (list_any (same_choice c) choices ≡ true → P c) → cond b true (list_any (same_choice c) choices) ≡ true → P c
of_listed P c d choices true is of_d rest any = subst P (sym (same_choice-equal c d is)) of_d
of_listed P c d choices false is of_d rest any = rest any

or_cond : (b rest : Bool) → (c : Choice) (d : Choice) (choices : List Choice) → same_choice c d ≡ b → list_any (same_choice c) choices ≡ rest → list_any (same_choice c) (d ∷ choices) ≡ true → cond b true rest ≡ true
or_cond true rest c d choices is is_rest any = refl
or_cond false true c d choices is is_rest any = refl
or_cond false false c d choices is is_rest any = absurd (true≢false (sym any ∙ neither))
  where
    neither : list_any (same_choice c) (d ∷ choices) ≡ false
    neither = rw (is, is_rest) refl

each_listed : (P : Choice → Type 0) (c : Choice) (choices : List Choice) → AllByRecursion P choices → list_any (same_choice c) choices ≡ true → P c
each_listed P c [] each any = absurd (let wrong : ⊥ = cc in wrong)
each_listed P c (d ∷ choices) each any = of_listed P c d choices (same_choice c d) refl each.0 (each_listed P c choices each.1) (or_cond (same_choice c d) (list_any (same_choice c) choices) c d choices refl refl any)

pub matches-listed : (program : Program) (memory : Memory) (c : Choice) → Rises (tags_of memory) → is_listed program memory c ≡ true → matches program memory c ≡ true
matches-listed program memory c rises listed = each_listed (λ (d : Choice). matches program memory d ≡ true) c (conflict_set program memory) (AllMatch-conflict_set program memory rises) listed

-- the rule of a choice that matches, and the bindings of its match
pub record IsMatch (program : Program) (memory : Memory) (c : Choice) : Type 0 where
  pub rule : Rule
  pub at : slice_get program.rules c.rule ≡ Some rule
  pub last : Bindings
  pub is : match_of rule c.tags memory ≡ Ok last

of_result : (program : Program) (memory : Memory) (c : Choice) (rule : Rule) (r : Result Bindings ℕ) → slice_get program.rules c.rule ≡ Some rule → match_of rule c.tags memory ≡ r → is_ok r ≡ true → IsMatch program memory c
of_result program memory c rule (Ok last) at is ok = record { rule = rule; at = at; last = last; is = is }
of_result program memory c rule (Err n) at is ok = absurd (let wrong : ⊥ = cc in wrong)

of_rule : (program : Program) (memory : Memory) (c : Choice) (o : Option Rule) → slice_get program.rules c.rule ≡ o → option_map_or (λ (rule : Rule). is_ok (match_of rule c.tags memory)) o false ≡ true → IsMatch program memory c
of_rule program memory c None at ok = absurd (let wrong : ⊥ = cc in wrong)
of_rule program memory c (Some rule) at ok = of_result program memory c rule (match_of rule c.tags memory) at refl ok

pub IsMatch-matches : (program : Program) (memory : Memory) (c : Choice) → matches program memory c ≡ true → IsMatch program memory c
IsMatch-matches program memory c ok = of_rule program memory c (slice_get program.rules c.rule) refl ok

-- and the other way round
pub matches-match_of : (program : Program) (memory : Memory) (c : Choice) (rule : Rule) (last : Bindings) → slice_get program.rules c.rule ≡ Some rule → match_of rule c.tags memory ≡ Ok last → matches program memory c ≡ true
matches-match_of program memory c rule last at is = ap (λ o. option_map_or (λ (r : Rule). is_ok (match_of r c.tags memory)) o false) at ∙ ap is_ok is

-- the element at a place has the tag there
tag_first : (memory : Memory) (tag : ℕ) (tags : List ℕ) (first : Element) (at : ℕ) (e : Element) → element_at memory tag ≡ Some first → ((n : ℕ) → slice_get (elements_at memory tags) n ≡ Some e → slice_get tags n ≡ Some e.tag) → slice_get (cons_option (Some first) (elements_at memory tags)) at ≡ Some e → slice_get (tag ∷ tags) at ≡ Some e.tag
tag_first memory tag tags first zero e found rest is =
    let same : first ≡ e = cc in
    ap (λ n. Some n) (sym ((Decides-eqb first.tag tag).0 (IsFound-find (λ (x : Element). x.tag == tag) memory first found).passes) ∙ ap (λ (x : Element). x.tag) same)
tag_first memory tag tags first (suc n) e found rest is = rest n is

pub tag_of_element : (memory : Memory) (tags : List ℕ) → ((tag : ℕ) → Among tag tags → (e : Element) × (element_at memory tag ≡ Some e)) → (at : ℕ) (e : Element) → slice_get (elements_at memory tags) at ≡ Some e → slice_get tags at ≡ Some e.tag
tag_of_element memory [] found at e is = absurd (let wrong : ⊥ = cc in wrong)
tag_of_element memory (tag ∷ tags) found at e is =
    let first = found tag (inl refl) in
    tag_first memory tag tags first.0 at e first.1 (λ n. tag_of_element memory tags (λ t among. found t (inr among)) n e) (subst (λ o. slice_get (cons_option o (elements_at memory tags)) at ≡ Some e) first.1 is)

-- the element at a positive condition element is of its class
paired_first : (first : Cond) (conds : List Cond) (here : Element) (elements : List Element) (at : ℕ) (e : Element) → first.class ≡ here.class → ((n : ℕ) → slice_get elements n ≡ Some e → IsPaired (taken conds elements) n e) → slice_get (here ∷ elements) at ≡ Some e → IsPaired (taken_by false first conds (here ∷ elements)) at e
paired_first first conds here elements zero e class rest is =
    let same : here ≡ e = cc in
    record { cond = first; pair = ap (λ (x : Element). Some (first, x)) same; class = class ∙ ap (λ (x : Element). x.class) same }
paired_first first conds here elements (suc n) e class rest is =
    let later = rest n is in
    record { cond = later.cond; pair = later.pair; class = later.class }

abbrev RestIsPaired : Memory → Bindings → List Cond → Type 0
RestIsPaired memory last conds = (tags : List ℕ) (bindings : Bindings) → Walks memory last conds tags bindings → (at : ℕ) (e : Element) → slice_get (elements_at memory tags) at ≡ Some e → IsPaired (taken conds (elements_at memory tags)) at e

paired_by_sign : (sign : Bool) (memory : Memory) (last : Bindings) (first : Cond) (conds : List Cond) (tags : List ℕ) (bindings : Bindings) → RestIsPaired memory last conds → WalksBy sign first memory tags bindings (Walks memory last conds) → (at : ℕ) (e : Element) → slice_get (elements_at memory tags) at ≡ Some e → IsPaired (taken_by sign first conds (elements_at memory tags)) at e
paired_by_sign true memory last first conds tags bindings rest walks at e is = rest tags bindings walks.1 at e is
paired_by_sign false memory last first conds [] bindings rest walks at e is = absurd walks
paired_by_sign false memory last first conds (tag ∷ tags) bindings rest walks at e is =
    let accepted = IsAccepted-accepts first bindings walks.element walks.after walks.accepted in
    let elements : elements_at memory (tag ∷ tags) ≡ walks.element ∷ elements_at memory tags = ap (λ o. cons_option o (elements_at memory tags)) walks.at in
    subst (λ es. IsPaired (taken_by false first conds es) at e) (sym elements)
    (paired_first first conds walks.element (elements_at memory tags) at e ((Decides-eqb first.class walks.element.class).0 accepted.class) (λ n. rest tags walks.after walks.rest n e) (subst (λ es. slice_get es at ≡ Some e) elements is))

pub IsPaired-walk : (memory : Memory) (last : Bindings) (conds : List Cond) → RestIsPaired memory last conds
IsPaired-walk memory last [] [] bindings walks at e is = absurd (let wrong : ⊥ = cc in wrong)
IsPaired-walk memory last [] (tag ∷ tags) bindings walks at e is = absurd walks
IsPaired-walk memory last (first ∷ conds) tags bindings walks at e is = paired_by_sign first.negated memory last first conds tags bindings (IsPaired-walk memory last conds) walks at e is

-- a variable to which something is given has a value
of_told_test : (pair : Cond × Element) (test : Test) (t : ℕ × Option Value) → Among t (told_by_test pair test) → (attr : ℕ) × (test ≡ Bind attr t.0)
of_told_test pair (Bind attr var) t (inl same) = (attr, ap (λ (u : ℕ × Option Value). Bind attr u.0) (sym same))
of_told_test pair (Bind attr var) t (inr none) = absurd none
of_told_test pair (Cmp attr pred arg) t among = absurd among
of_told_test pair (OneOf attr values) t among = absurd among

has_value_told : (last : Bindings) (bindings : Bindings) (pairs : List (Cond × Element)) (t : ℕ × Option Value) → IsFull last bindings pairs → Among t (told_by pairs) → HasValue last t.0
has_value_told last bindings pairs t full among =
    let of_pair = IsAmongOne-flat_map (λ (pair : Cond × Element). flat_map (told_by_test pair) pair.0.tests) t pairs among in
    let of_test = IsAmongOne-flat_map (told_by_test of_pair.source) t of_pair.source.0.tests of_pair.among in
    let binds = of_told_test of_pair.source of_test.source t of_test.among in
    full.fills of_pair.source binds.0 t.0 of_pair.there (subst (λ test. Among test of_pair.source.0.tests) binds.1 of_test.there)

some_value : (o : Option Value) → is_some o ≡ true → (value : Value) × (o ≡ Some value)
some_value None has = absurd (let wrong : ⊥ = cc in wrong)
some_value (Some value) has = (value, refl)

given_is_value : (pairs : List (Cond × Element)) (last bindings : Bindings) (var : ℕ) (value : Value) → IsFull last bindings pairs → Agrees (first_told (told_by pairs)) last → first_told (told_by pairs) var ≡ Some value → value_of last var ≡ value
given_is_value pairs last bindings var value full agrees is =
    let gave = Gave-some (find (λ (t : ℕ × Option Value). t.0 == var) (told_by pairs)) (λ (t : ℕ × Option Value). t.1) value is in
    let found = IsFound-find (λ (t : ℕ × Option Value). t.0 == var) (told_by pairs) gave.first gave.is in
    let same : gave.first.0 ≡ var = (Decides-eqb gave.first.0 var).0 found.passes in
    let has = some_value (binding_of last var) (subst (HasValue last) same (has_value_told last bindings pairs gave.first full found.there)) in
    let equal : Some has.0 ≡ Some value = sym (agrees var has.0 has.1) ∙ is in
    let value_is : has.0 ≡ value = cc in
    ap (λ o. unwrap_or o nil) has.1 ∙ value_is

-- what the choice's match says
pub record IsMatched (sizes : List ℕ) (rule : Rule) (tags : List ℕ) (memory : Memory) (last : Bindings) : Type 0 where
  pub walks : Walks memory last rule.conds tags (no_bindings rule.vars)
  pub found : (tag : ℕ) → Among tag tags → (e : Element) × (element_at memory tag ≡ Some e)
  pub tells : (pair : Cond × Element) → Among pair (taken rule.conds (elements_at memory tags)) → (attr var : ℕ) → Among (Bind attr var) pair.0.tests → given rule.conds (elements_at memory tags) var ≡ value_at pair attr
  pub has : HasGiven rule (elements_at memory tags) last
  pub paired : (at : ℕ) (e : Element) → slice_get (elements_at memory tags) at ≡ Some e → IsPaired (taken rule.conds (elements_at memory tags)) at e
  pub tag : (at : ℕ) (e : Element) → slice_get (elements_at memory tags) at ≡ Some e → slice_get tags at ≡ Some e.tag

pub IsMatched-match_of : (sizes : List ℕ) (rule : Rule) (tags : List ℕ) (memory : Memory) (last : Bindings) → IsSoundRule sizes rule → match_of rule tags memory ≡ Ok last → IsMatched sizes rule tags memory last
IsMatched-match_of sizes rule tags memory last sound ok =
    let elements = elements_at memory tags in
    let gives = given rule.conds elements in
    let walks : Walks memory last rule.conds tags (no_bindings rule.vars) = Walks-match_from 1 rule.conds memory last tags (no_bindings rule.vars) ok in
    let found = found_on_walk rule.conds memory tags (no_bindings rule.vars) last walks in
    let tells : (pair : Cond × Element) → Among pair (taken rule.conds elements) → (attr var : ℕ) → Among (Bind attr var) pair.0.tests → gives var ≡ value_at pair attr = λ pair. Tells-taken rule.conds elements pair sound.bound_once in
    let agrees : Agrees gives last = Agrees-walk gives memory last rule.conds tags (no_bindings rule.vars) tells (Agrees-nothing gives rule.vars) walks in
    let full = IsFull-walk sizes rule.vars memory last rule.conds [] tags (no_bindings rule.vars) sound.sound_conds (length-replicate rule.vars None) walks in
    record {
      walks = walks;
      found = found;
      tells = tells;
      has = λ var value unset is. given_is_value (taken rule.conds elements) last (no_bindings rule.vars) var value full agrees is;
      paired = IsPaired-walk memory last rule.conds tags (no_bindings rule.vars) walks;
      tag = tag_of_element memory tags found;
    }

-- no variable that a negated condition element binds is bound by a positive one
of_positive_first : (b : Bool) (first : Cond) (conds : List Cond) (c : Cond) → first.negated ≡ b → (Among c (positive conds) → Among c conds × (c.negated ≡ false)) → Among c (cond (not b) (first ∷ positive conds) (positive conds)) → Among c (first ∷ conds) × (c.negated ≡ false)
of_positive_first true first conds c is rest among = let later = rest among in (inr later.0, later.1)
of_positive_first false first conds c is rest (inl same) = (inl same, ap (λ (x : Cond). x.negated) same ∙ is)
of_positive_first false first conds c is rest (inr there) = let later = rest there in (inr later.0, later.1)

of_positive : (conds : List Cond) (c : Cond) → Among c (positive conds) → Among c conds × (c.negated ≡ false)
of_positive [] c among = absurd among
of_positive (first ∷ conds) c among = of_positive_first first.negated first conds c refl (of_positive conds c) among

pub BindsOthers-negated : (conds : List Cond) (c : Cond) → IsDistinct nat_eq (bound_variables conds) → Among c conds → c.negated ≡ true → BindsOthers conds c.tests
BindsOthers-negated conds c distinct of_c is var bound among =
    let source = IsAmongOne-flat_map vars_of var (positive conds) (Among-list_any var (bound_variables (positive conds)) bound) in
    let positive_one = of_positive conds source.source source.there in
    let same : c ≡ source.source = one_source vars_of conds c source.source var distinct of_c positive_one.0 among source.among in
    absurd (true≢false (sym is ∙ ap (λ (x : Cond). x.negated) same ∙ positive_one.1))
