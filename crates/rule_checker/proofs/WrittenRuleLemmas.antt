-- The rules of a checked program are those of its forms: one form at a time.
use Rattle.std.proofs.Common.{◌≡◌, ◌⊎◌, ℕ, ◌+◌, ◌≤◌, inl, inr, Bool, true, false, cond, List, [], ◌∷◌, ◌++◌, Option, None, Some, Result, Ok, is_some, length, nat_eq, slice_get, zero, suc, refl, sym, ap, ◌∙◌, subst, arith, append_assoc, append-nil}
use Rattle.std.specs.List.{AllZip, position_from}
use Rattle.std.proofs.lemmas.List.{map-append}
use Rattle.std.proofs.lemmas.Iterator.Adapters.{position_from-zero}
use Rattle.rule_base.specs.declared.program.Class.{Class}
use Rattle.rule_base.specs.declared.program.Rule.{Rule}
use Rattle.rule_base.specs.declared.program.Program.{Program}
use Rattle.rule_base.specs.Chains.{◌>>=◌}
use Rattle.ops_reader.specs.declared.form.FormCond.{FormCond}
use Rattle.ops_reader.specs.declared.form.FormAction.{FormAction}
use Rattle.ops_reader.specs.declared.form.FormAction.TheVariants as form_action
use Rattle.ops_reader.specs.declared.form.Form.{Form}
use Rattle.ops_reader.specs.declared.form.Form.TheVariants as form
use Rattle.rule_checker.specs.declared.refusal.CheckKind.{CheckKind}
use Rattle.rule_checker.specs.declared.refusal.CheckKind.TheVariants.{Twice}
use Rattle.rule_checker.specs.declared.left_side.Elements.{Elements}
use Rattle.rule_checker.specs.declared.left_side.LeftSide.{LeftSide}
use Rattle.rule_checker.specs.declared.right_side.RightSide.{RightSide}
use Rattle.rule_checker.specs.Names.{number_in}
use Rattle.rule_checker.specs.Walk.{after_each}
use Rattle.rule_checker.specs.Forms.{at_form, after_forms}
use Rattle.rule_checker.specs.Classes.{class_names, not_yet_declared, few_classes, with_attribute, with_class}
use Rattle.rule_checker.specs.Makes.{make_of}
use Rattle.rule_checker.specs.LeftSide.{no_conditions, left_side}
use Rattle.rule_checker.specs.RightSide.{few_actions, make_action, modify_action, with_designator, with_plain_action, set_variable, with_bind, after_action, with_action, right_side}
use Rattle.rule_checker.specs.Scope.{variable_of}
use Rattle.rule_checker.specs.Terms.{term_of, with_item}
use Rattle.rule_checker.specs.Rules.{new_rule_name, few_rules, rule_of, checked_rule, with_rule}
use Rattle.rule_checker.specs.Checked.{with_form, no_program, checked}
use Rattle.rule_checker.specs.WrittenRules.{WrittenRule, rule_in, written_rules, HasWrittenConditions}
use Rattle.rule_checker.proofs.ResultLemmas.{passed, kept, same_ok, after_each-keeps}
use Rattle.rule_checker.proofs.CheckedLemmas.{at_form-passes}
use Rattle.rule_checker.proofs.NamedLemmas.{same_numbers}
use Rattle.rule_checker.proofs.LaterClassLemmas.{number_in-front, checked_rule-more}
use Rattle.rule_checker.proofs.WrittenConditionLemmas.{AreNamedOnce, HasWalked, conds-walked, walked-ask}

-- a rule is what a written one is checked to, over these classes
abbrev pub IsCheckedTo : List Class → WrittenRule → Rule → Type 0
IsCheckedTo classes written rule = checked_rule classes written.name written.conds written.actions ≡ Ok rule

-- what holds of a program and the written rules so far
pub record HasRules (p : Program) (written : List WrittenRule) : Type 0 where
  pub once : AreNamedOnce p.classes
  pub rules : AllZip (IsCheckedTo p.classes) written p.rules

-- lists side by side
pub zip_map : {A B : Type 0} (P Q : A → B → Type 0) → ((a : A) (b : B) → P a b → Q a b) → (xs : List A) (ys : List B) → AllZip P xs ys → AllZip Q xs ys
zip_map P Q f [] [] h = tt
zip_map P Q f [] (y ∷ ys) h = h
zip_map P Q f (x ∷ xs) [] h = h
zip_map P Q f (x ∷ xs) (y ∷ ys) h = (f x y h.0, zip_map P Q f xs ys h.1)

pub zip_push : {A B : Type 0} (P : A → B → Type 0) (xs : List A) (ys : List B) (a : A) (b : B) → AllZip P xs ys → P a b → AllZip P (xs ++ a ∷ []) (ys ++ b ∷ [])
zip_push P [] [] a b h last = (last, tt)
zip_push P [] (y ∷ ys) a b h last = absurd h
zip_push P (x ∷ xs) [] a b h last = absurd h
zip_push P (x ∷ xs) (y ∷ ys) a b h last = (h.0, zip_push P xs ys a b h.1 last)

-- a name that is new gets the last place
place_from-push : (p : ℕ → Bool) (k : ℕ) (xs : List ℕ) (y : ℕ) → position_from p k xs ≡ None → p y ≡ true → position_from p k (xs ++ y ∷ []) ≡ Some (k + length xs)
place_from-push p k [] y none passes =
    let here : k ≡ k + 0 = omega arith in
    ap (λ b. cond b (Some k) None) passes ∙ ap Some here
place_from-push p k (x ∷ xs) y none passes = by (p x) none (λ rest. place_from-push p (k + 1) xs y rest passes)
  where
    by : (b : Bool) → cond b (Some k) (position_from p (k + 1) xs) ≡ None → (position_from p (k + 1) xs ≡ None → position_from p (k + 1) (xs ++ y ∷ []) ≡ Some (k + 1 + length xs))
        → cond b (Some k) (position_from p (k + 1) (xs ++ y ∷ [])) ≡ Some (k + suc (length xs))
    by true is later = absurd (cc)
    by false is later =
        let count : k + 1 + length xs ≡ k + suc (length xs) = omega arith in
        later is ∙ ap Some count

number_in-push : (names : List ℕ) (name : ℕ) → number_in names name ≡ None → number_in (names ++ name ∷ []) name ≡ Some (length names)
number_in-push names name none =
    position_from-zero (nat_eq name) (names ++ name ∷ [])
    ∙ place_from-push (nat_eq name) 0 names name (sym (position_from-zero (nat_eq name) names) ∙ none) (same_numbers name name refl)
    ∙ ap Some (let count : 0 + length names ≡ length names = omega arith in count)

-- what stands in a list with one more element
stands-in : (names : List ℕ) (last at name : ℕ) → slice_get (names ++ last ∷ []) at ≡ Some name → (slice_get names at ≡ Some name) ⊎ ((at ≡ length names) × (name ≡ last))
stands-in [] last zero name is = let same : last ≡ name = cc in inr (refl, sym same)
stands-in [] last (suc at) name is = absurd (cc)
stands-in (first ∷ names) last zero name is = inl is
stands-in (first ∷ names) last (suc at) name is = elim (stands-in names last at name is) [ inl here ↦ inl here | inr end ↦ inr (ap suc end.0, end.1) ]

none-of : {A : Type 0} (o : Option A) → is_some o ≡ false → o ≡ None
none-of None is = refl
none-of (Some a) is = absurd (cc)

AreNamedOnce-push : (classes : List Class) (c : Class) → number_in (class_names classes) c.name ≡ None → AreNamedOnce classes → AreNamedOnce (classes ++ c ∷ [])
AreNamedOnce-push classes c new h = record {
  found = λ at name is.
      let names = map-append (λ (d : Class). d.name) classes (c ∷ []) in
      let there : slice_get (class_names classes ++ c.name ∷ []) at ≡ Some name = ap (λ ns. slice_get ns at) (sym names) ∙ is in
      ap (λ ns. number_in ns name) names ∙ by at name (stands-in (class_names classes) c.name at name there);
}
  where
    by : (at name : ℕ) → (slice_get (class_names classes) at ≡ Some name) ⊎ ((at ≡ length (class_names classes)) × (name ≡ c.name)) → number_in (class_names classes ++ c.name ∷ []) name ≡ Some at
    by at name (inl here) = number_in-front (class_names classes) (c.name ∷ []) name at (h.found at name here)
    by at name (inr end) = ap (number_in (class_names classes ++ c.name ∷ [])) end.1 ∙ number_in-push (class_names classes) c.name new ∙ ap Some (sym end.0)

-- one class more
with_class-keeps : (p : Program) (ws : List WrittenRule) (name : ℕ) (attrs : List ℕ) (classes : List Class) → HasRules p ws → with_class p.classes name attrs ≡ Ok classes → HasRules (record p { classes = classes }) ws
with_class-keeps p ws name attrs classes h e =
    let last : List ℕ → Result (List Class) CheckKind = λ own. Ok (p.classes ++ record { name = name; attrs = own } ∷ []) in
    let new = passed (not_yet_declared p.classes name) (λ _. few_classes p.classes >>= λ _. after_each with_attribute [] attrs >>= last) classes e in
    let few = passed (few_classes p.classes) (λ _. after_each with_attribute [] attrs >>= last) classes new.2 in
    let own = passed (after_each with_attribute [] attrs) last classes few.2 in
    let c : Class = record { name = name; attrs = own.0 } in
    let none = none-of (number_in (class_names p.classes) name) (kept (is_some (number_in (class_names p.classes) name)) Twice new.0 new.1) in
    subst (λ (cs : List Class). HasRules (record p { classes = cs }) ws) (same_ok own.2) (record {
      once = AreNamedOnce-push p.classes c none h.once;
      rules = zip_map (IsCheckedTo p.classes) (IsCheckedTo (p.classes ++ c ∷ [])) (λ w rule is. checked_rule-more p.classes (c ∷ []) w.name w.conds w.actions rule is) ws p.rules h.rules;
    })

-- one rule more
with_rule-keeps : (p : Program) (ws : List WrittenRule) (name : ℕ) (conds : List FormCond) (actions : List FormAction) (rules : List Rule) → HasRules p ws → with_rule p.classes p.rules name conds actions ≡ Ok rules
    → HasRules (record p { rules = rules }) (ws ++ record { name = name; conds = conds; actions = actions } ∷ [])
with_rule-keeps p ws name conds actions rules h e =
    let w : WrittenRule = record { name = name; conds = conds; actions = actions } in
    let new = passed (new_rule_name p.rules name) (λ _. few_rules p.rules >>= λ _. checked_rule p.classes name conds actions >>= λ rule. Ok (p.rules ++ rule ∷ [])) rules e in
    let few = passed (few_rules p.rules) (λ _. checked_rule p.classes name conds actions >>= λ rule. Ok (p.rules ++ rule ∷ [])) rules new.2 in
    let r = passed (checked_rule p.classes name conds actions) (λ rule. Ok (p.rules ++ rule ∷ [])) rules few.2 in
    subst (λ (rs : List Rule). HasRules (record p { rules = rs }) (ws ++ w ∷ [])) (same_ok r.2) (record {
      once = h.once;
      rules = zip_push (IsCheckedTo p.classes) ws p.rules w r.0 h.rules r.1;
    })

-- a form that is no rule
no_more : (p q : Program) (ws : List WrittenRule) → HasRules p ws → q.classes ≡ p.classes → q.rules ≡ p.rules → HasRules q (ws ++ [])
no_more p q ws h classes rules =
    let same = append-nil ws in
    subst (λ (vs : List WrittenRule). HasRules q vs) (sym same) (record { once = subst AreNamedOnce (sym classes) h.once; rules = rw (classes, rules) h.rules })

-- one form more
with_form-keeps : (p : Program) (ws : List WrittenRule) (f : Form) (next : Program) → HasRules p ws → with_form p f ≡ Ok next → HasRules next (ws ++ rule_in f)
with_form-keeps p ws (form.Literalize class attrs) next h e =
    let w = passed (with_class p.classes class attrs) (λ classes. Ok (record p { classes = classes })) next e in
    subst (λ (q : Program). HasRules q (ws ++ [])) (same_ok w.2) (no_more (record p { classes = w.0 }) (record p { classes = w.0 }) ws (with_class-keeps p ws class attrs w.0 h w.1) refl refl)
with_form-keeps p ws (form.P name conds actions) next h e =
    let w = passed (with_rule p.classes p.rules name conds actions) (λ rules. Ok (record p { rules = rules })) next e in
    subst (λ (q : Program). HasRules q (ws ++ record { name = name; conds = conds; actions = actions } ∷ [])) (same_ok w.2) (with_rule-keeps p ws name conds actions w.0 h w.1)
with_form-keeps p ws (form.Make class sets) next h e =
    let m = passed (make_of p.classes class sets) (λ make. Ok (record p { makes = p.makes ++ make ∷ [] })) next e in
    subst (λ (q : Program). HasRules q (ws ++ [])) (same_ok m.2) (no_more p (record p { makes = p.makes ++ m.0 ∷ [] }) ws h refl refl)
with_form-keeps p ws (form.Strategy mea) next h e = subst (λ (q : Program). HasRules q (ws ++ [])) (same_ok e) (no_more p p ws h refl refl)
with_form-keeps p ws (form.Watch level) next h e = subst (λ (q : Program). HasRules q (ws ++ [])) (same_ok e) (no_more p p ws h refl refl)

forms-keep : (number : ℕ) (p : Program) (ws : List WrittenRule) (forms : List Form) (next : Program) → HasRules p ws → after_forms with_form number p forms ≡ Ok next → HasRules next (ws ++ written_rules forms)
forms-keep number p ws [] next h e = subst (λ (q : Program). HasRules q (ws ++ [])) (same_ok e) (no_more p p ws h refl refl)
forms-keep number p ws (f ∷ forms) next h e =
    let w = passed (at_form number (with_form p f)) (λ q. after_forms with_form (number + 1) q forms) next e in
    let here = with_form-keeps p ws f w.0 h (at_form-passes number (with_form p f) w.0 w.1) in
    subst (λ (vs : List WrittenRule). HasRules next vs) (append_assoc ws (rule_in f) (written_rules forms)) (forms-keep (number + 1) w.0 (ws ++ rule_in f) forms next here w.2)

-- a checked program has the rules of its forms
pub checked-has_rules : (forms : List Form) (p : Program) → checked forms ≡ Ok p → HasRules p (written_rules forms)
checked-has_rules forms p e = forms-keep 1 no_program [] forms p (record { once = record { found = λ at name is. absurd (cc) }; rules = tt }) e

-- the variables of actions come after those of condition elements
bind-grows : (right : RightSide) (name : ℕ) (o : Option ℕ) → right.scope.vars ≤ (set_variable right.scope name o).1.vars
bind-grows right name None = omega arith
bind-grows right name (Some var) = omega arith

action-grows : (classes : List Class) (elements : Elements) (right : RightSide) (w : FormAction) (next : RightSide) → after_action classes elements right w ≡ Ok next → right.scope.vars ≤ next.scope.vars
action-grows classes elements right (form_action.Make name sets) next e =
    let a = passed (make_action classes right.scope name sets) (λ a. Ok (with_plain_action right a)) next e in
    omega (arith, ap (λ (r : RightSide). r.scope.vars) (same_ok a.2))
action-grows classes elements right (form_action.Modify at sets) next e =
    let a = passed (modify_action classes elements right.scope at sets) (λ a. Ok (with_plain_action right a)) next e in
    omega (arith, ap (λ (r : RightSide). r.scope.vars) (same_ok a.2))
action-grows classes elements right (form_action.Remove places) next e =
    let a = passed (after_each (with_designator elements) [] places) (λ done. Ok _) next e in
    omega (arith, ap (λ (r : RightSide). r.scope.vars) (same_ok a.2))
action-grows classes elements right (form_action.Bind name value) next e =
    let a = passed (term_of right.scope value) (λ t. Ok (with_bind right t (set_variable right.scope name (variable_of right.scope name)))) next e in
    omega (arith, ap (λ (r : RightSide). r.scope.vars) (same_ok a.2), bind-grows right name (variable_of right.scope name))
action-grows classes elements right (form_action.Write items) next e =
    let a = passed (after_each (with_item right.scope) [] items) (λ done. Ok _) next e in
    omega (arith, ap (λ (r : RightSide). r.scope.vars) (same_ok a.2))
action-grows classes elements right form_action.Halt next e = omega (arith, ap (λ (r : RightSide). r.scope.vars) (same_ok e))

pub with_action-grows : (classes : List Class) (elements : Elements) (right : RightSide) (w : FormAction) (next : RightSide) → with_action classes elements right w ≡ Ok next → right.scope.vars ≤ next.scope.vars
with_action-grows classes elements right w next e =
    let few = passed (few_actions right) (λ _. after_action classes elements right w) next e in
    action-grows classes elements right w next few.2

-- the parts of a checked rule
pub record HasSides (classes : List Class) (w : WrittenRule) (rule : Rule) : Type 0 where
  pub left : LeftSide
  pub right : RightSide
  pub left_is : left_side classes w.conds ≡ Ok left
  pub right_is : right_side classes left.scope left.elements w.actions ≡ Ok right
  pub is : rule ≡ rule_of w.name left right
  pub walked : HasWalked classes rule.vars no_conditions w.conds left

pub sides-of : (classes : List Class) (w : WrittenRule) (rule : Rule) → AreNamedOnce classes → IsCheckedTo classes w rule → HasSides classes w rule
sides-of classes w rule once e =
    let l = passed (left_side classes w.conds) (λ left. right_side classes left.scope left.elements w.actions >>= λ right. Ok (rule_of w.name left right)) rule e in
    let r = passed (right_side classes l.0.scope l.0.elements w.actions) (λ right. Ok (rule_of w.name l.0 right)) rule l.2 in
    let is = sym (same_ok r.2) in
    let start : RightSide = record { actions = []; scope = l.0.scope } in
    let grown = after_each-keeps (λ (x : RightSide). l.0.scope.vars ≤ x.scope.vars) (with_action classes l.0.elements) (λ s a t h step. omega (arith, h, with_action-grows classes l.0.elements s a t step)) start w.actions r.0 (omega arith) r.1 in
    let room : l.0.scope.vars ≤ rule.vars = omega (arith, grown, ap (λ (x : Rule). x.vars) is) in
    record {
      left = l.0;
      right = r.0;
      left_is = l.1;
      right_is = r.1;
      is = is;
      walked = conds-walked classes rule.vars no_conditions w.conds l.0 once refl (record { below = λ name var known. absurd (cc); apart = λ first second var known also. absurd (cc) }) room l.1;
    }

-- its condition elements ask what is written
pub sides-ask : (classes : List Class) (w : WrittenRule) (rule : Rule) → HasSides classes w rule → HasWrittenConditions classes w rule
sides-ask classes w rule s =
    let conds : rule.conds ≡ s.walked.conds = ap (λ (x : Rule). x.conds) s.is ∙ s.walked.more in
    rw conds (walked-ask classes rule.vars no_conditions w.conds s.walked.conds s.left s.walked.walked)
