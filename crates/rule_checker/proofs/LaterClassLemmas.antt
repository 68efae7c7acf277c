-- Classes that are declared later don't matter to a rule: it is checked to the same.
use Rattle.std.proofs.Common.{◌≡◌, ℕ, ◌+◌, ◌<◌, Bool, true, false, cond, List, [], ◌∷◌, ◌++◌, Option, None, Some, Result, Ok, length, nat_eq, slice_get, get_or, refl, sym, ap, ◌∙◌, subst, arith}
use Rattle.std.specs.Option.{option_map_or}
use Rattle.std.specs.List.{AllByRecursion, position_from}
use Rattle.std.proofs.lemmas.List.{map-append, length-map}
use Rattle.std.proofs.lemmas.Iterator.Adapters.{position_from-zero}
use Rattle.std.proofs.lemmas.Option.{slice_get-get_or}
use Rattle.rule_base.specs.declared.action.Action.{Action}
use Rattle.rule_base.specs.declared.action.Action.TheVariants as action
use Rattle.rule_base.specs.declared.program.Class.{Class}
use Rattle.rule_base.specs.declared.program.Rule.{Rule}
use Rattle.rule_base.specs.Chains.{◌>>=◌}
use Rattle.rule_base.specs.Sound.{sizes_of}
use Rattle.ops_reader.specs.declared.form.At.{At}
use Rattle.ops_reader.specs.declared.form.FormTerm.{FormTerm}
use Rattle.ops_reader.specs.declared.form.FormCond.{FormCond}
use Rattle.ops_reader.specs.declared.form.FormAction.{FormAction}
use Rattle.ops_reader.specs.declared.form.FormAction.TheVariants as form_action
use Rattle.rule_checker.specs.declared.refusal.CheckKind.{CheckKind}
use Rattle.rule_checker.specs.declared.refusal.CheckKind.TheVariants.{UnknownClass}
use Rattle.rule_checker.specs.declared.scope.Scope.{Scope}
use Rattle.rule_checker.specs.declared.left_side.Elements.{Elements}
use Rattle.rule_checker.specs.declared.left_side.LeftSide.{LeftSide}
use Rattle.rule_checker.specs.declared.right_side.RightSide.{RightSide}
use Rattle.rule_checker.specs.Names.{number_in}
use Rattle.rule_checker.specs.Walk.{found_or, after_each}
use Rattle.rule_checker.specs.Classes.{class_names, declared_class, attributes_at}
use Rattle.rule_checker.specs.LeftSide.{few_conditions, first_is_positive, with_pattern, with_cond, no_conditions, left_side}
use Rattle.rule_checker.specs.RightSide.{few_actions, known_designator, with_setting, make_action, attributes_of, modify_action, with_plain_action, after_action, with_action, right_side}
use Rattle.rule_checker.specs.Rules.{rule_of, checked_rule}
use Rattle.rule_checker.proofs.ListLemmas.{all_map, all_get, slice_get-front}
use Rattle.rule_checker.proofs.NumberLemmas.{number_in-within}
use Rattle.rule_checker.proofs.ResultLemmas.{passed, found}
use Rattle.rule_checker.proofs.ClassLemmas.{positive_classes-within}
use Rattle.rule_checker.proofs.LeftSideLemmas.{left_side-sound}

-- the number of a name stays where more names follow
place_from-front : {A : Type 0} (p : A → Bool) (k : ℕ) (xs ys : List A) (i : ℕ) → position_from p k xs ≡ Some i → position_from p k (xs ++ ys) ≡ Some i
place_from-front p k [] ys i e = absurd (cc)
place_from-front p k (x ∷ xs) ys i e = by (p x) e (place_from-front p (k + 1) xs ys i)
  where
    by : (b : Bool) → cond b (Some k) (position_from p (k + 1) xs) ≡ Some i → (position_from p (k + 1) xs ≡ Some i → position_from p (k + 1) (xs ++ ys) ≡ Some i) → cond b (Some k) (position_from p (k + 1) (xs ++ ys)) ≡ Some i
    by true is later = is
    by false is later = later is

pub number_in-front : (names more : List ℕ) (name number : ℕ) → number_in names name ≡ Some number → number_in (names ++ more) name ≡ Some number
number_in-front names more name number e =
    position_from-zero (nat_eq name) (names ++ more) ∙ place_from-front (nat_eq name) 0 names more number (sym (position_from-zero (nat_eq name) names) ∙ e)

found_is : {A : Type 0} (o : Option A) (kind : CheckKind) (a : A) → o ≡ Some a → found_or o kind ≡ Ok a
found_is o kind a is = ap (λ x. found_or x kind) is

module _ (classes more : List Class) where
  declared-more : (name number : ℕ) → declared_class classes name ≡ Ok number → declared_class (classes ++ more) name ≡ Ok number
  declared-more name number e =
      let here = found (number_in (class_names classes) name) UnknownClass number e in
      let there = number_in-front (class_names classes) (class_names more) name number here in
      found_is (number_in (class_names (classes ++ more)) name) UnknownClass number (ap (λ names. number_in names name) (map-append (λ (c : Class). c.name) classes more) ∙ there)

  declared-within : (name number : ℕ) → declared_class classes name ≡ Ok number → number < length classes
  declared-within name number e =
      omega (arith, number_in-within (class_names classes) name number (found (number_in (class_names classes) name) UnknownClass number e), length-map classes (λ (c : Class). c.name))

  attributes_at-more : (number : ℕ) → number < length classes → attributes_at (classes ++ more) number ≡ attributes_at classes number
  attributes_at-more number within =
      let none : Class = record { name = 0; attrs = [] } in
      let here = slice_get-get_or classes number none within in
      let there = slice_get-front classes more number (get_or classes number none) here in
      ap (λ (o : Option Class). option_map_or (λ (c : Class). c.attrs) o []) (there ∙ sym here)

  -- a condition element
  with_cond-more : (left : LeftSide) (w : FormCond) (next : LeftSide) → with_cond classes left w ≡ Ok next → with_cond (classes ++ more) left w ≡ Ok next
  with_cond-more left w next e =
      let few = passed (few_conditions left) (λ _. first_is_positive left w.negated >>= λ _. declared_class classes w.class >>= λ class. with_pattern class (attributes_at classes class) left w) next e in
      let first = passed (first_is_positive left w.negated) (λ _. declared_class classes w.class >>= λ class. with_pattern class (attributes_at classes class) left w) next few.2 in
      let c = passed (declared_class classes w.class) (λ class. with_pattern class (attributes_at classes class) left w) next first.2 in
      ap (λ o. o >>= λ _. first_is_positive left w.negated >>= λ _. declared_class (classes ++ more) w.class >>= λ class. with_pattern class (attributes_at (classes ++ more) class) left w) few.1
      ∙ ap (λ o. o >>= λ _. declared_class (classes ++ more) w.class >>= λ class. with_pattern class (attributes_at (classes ++ more) class) left w) first.1
      ∙ ap (λ o. o >>= λ class. with_pattern class (attributes_at (classes ++ more) class) left w) (declared-more w.class c.0 c.1)
      ∙ ap (λ attrs. with_pattern c.0 attrs left w) (attributes_at-more c.0 (declared-within w.class c.0 c.1))
      ∙ c.2

  -- an action, over elements of these classes
  abbrev AreWithin : Elements → Type 0
  AreWithin elements = AllByRecursion (λ class. class < length classes) elements.classes

  attributes_of-more : (elements : Elements) (place : ℕ) → AreWithin elements → attributes_of (classes ++ more) elements place ≡ attributes_of classes elements place
  attributes_of-more elements place within = by (slice_get elements.classes place) refl
    where
      by : (o : Option ℕ) → slice_get elements.classes place ≡ o → option_map_or (attributes_at (classes ++ more)) o [] ≡ option_map_or (attributes_at classes) o []
      by None is = refl
      by (Some class) is = attributes_at-more class (all_get (λ class. class < length classes) elements.classes place class within is)

  make-more : (scope : Scope) (name : ℕ) (sets : List (ℕ × FormTerm)) (a : Action) → make_action classes scope name sets ≡ Ok a → make_action (classes ++ more) scope name sets ≡ Ok a
  make-more scope name sets a e =
      let then = λ (class : ℕ) (attrs : List ℕ). after_each (with_setting attrs scope) [] sets >>= λ done. Ok (action.Make class (length attrs) done) in
      let c = passed (declared_class classes name) (λ class. then class (attributes_at classes class)) a e in
      ap (λ o. o >>= λ class. then class (attributes_at (classes ++ more) class)) (declared-more name c.0 c.1)
      ∙ ap (then c.0) (attributes_at-more c.0 (declared-within name c.0 c.1))
      ∙ c.2

  modify-more : (elements : Elements) (scope : Scope) (w : At) (sets : List (ℕ × FormTerm)) (a : Action) → AreWithin elements → modify_action classes elements scope w sets ≡ Ok a → modify_action (classes ++ more) elements scope w sets ≡ Ok a
  modify-more elements scope w sets a within e =
      let then = λ (place : ℕ) (attrs : List ℕ). after_each (with_setting attrs scope) [] sets >>= λ done. Ok (action.Modify place done) in
      let p = passed (known_designator elements w) (λ place. then place (attributes_of classes elements place)) a e in
      ap (λ o. o >>= λ place. then place (attributes_of (classes ++ more) elements place)) p.1
      ∙ ap (then p.0) (attributes_of-more elements p.0 within)
      ∙ p.2

  after_action-more : (elements : Elements) (right : RightSide) (w : FormAction) (next : RightSide) → AreWithin elements → after_action classes elements right w ≡ Ok next → after_action (classes ++ more) elements right w ≡ Ok next
  after_action-more elements right (form_action.Make name sets) next within e =
      let a = passed (make_action classes right.scope name sets) (λ a. Ok (with_plain_action right a)) next e in
      ap (λ o. o >>= λ a. Ok (with_plain_action right a)) (make-more right.scope name sets a.0 a.1) ∙ a.2
  after_action-more elements right (form_action.Modify w sets) next within e =
      let a = passed (modify_action classes elements right.scope w sets) (λ a. Ok (with_plain_action right a)) next e in
      ap (λ o. o >>= λ a. Ok (with_plain_action right a)) (modify-more elements right.scope w sets a.0 within a.1) ∙ a.2
  after_action-more elements right (form_action.Remove places) next within e = e
  after_action-more elements right (form_action.Bind name value) next within e = e
  after_action-more elements right (form_action.Write items) next within e = e
  after_action-more elements right form_action.Halt next within e = e

  with_action-more : (elements : Elements) → AreWithin elements → (right : RightSide) (w : FormAction) (next : RightSide) → with_action classes elements right w ≡ Ok next → with_action (classes ++ more) elements right w ≡ Ok next
  with_action-more elements within right w next e =
      let few = passed (few_actions right) (λ _. after_action classes elements right w) next e in
      ap (λ o. o >>= λ _. after_action (classes ++ more) elements right w) few.1 ∙ after_action-more elements right w next within few.2

  -- walks whose steps pass
  each-more : {S A : Type 0} (step later : S → A → Result S CheckKind) → ((s : S) (a : A) (t : S) → step s a ≡ Ok t → later s a ≡ Ok t) → (s : S) (xs : List A) (t : S) → after_each step s xs ≡ Ok t → after_each later s xs ≡ Ok t
  each-more step later passes s [] t e = e
  each-more step later passes s (x ∷ xs) t e =
      let w = passed (step s x) (λ next. after_each step next xs) t e in
      ap (λ o. o >>= λ next. after_each later next xs) (passes s x w.0 w.1) ∙ each-more step later passes w.0 xs t w.2

  elements-within : (conds : List FormCond) (left : LeftSide) → left_side classes conds ≡ Ok left → AreWithin left.elements
  elements-within conds left e =
      let ls = left_side-sound classes conds left e in
      let sized = positive_classes-within (sizes_of classes) left.scope.vars [] left.conds (ls.sound left.scope.vars (omega arith)) in
      let within = all_map _ (λ class. class < length classes) (λ class lt. omega (arith, lt, length-map classes (λ (c : Class). length c.attrs))) _ sized in
      subst (AllByRecursion (λ class. class < length classes)) (sym ls.elements) within

  -- a rule
  pub checked_rule-more : (name : ℕ) (conds : List FormCond) (actions : List FormAction) (rule : Rule) → checked_rule classes name conds actions ≡ Ok rule → checked_rule (classes ++ more) name conds actions ≡ Ok rule
  checked_rule-more name conds actions rule e =
      let l = passed (left_side classes conds) (λ left. right_side classes left.scope left.elements actions >>= λ right. Ok (rule_of name left right)) rule e in
      let r = passed (right_side classes l.0.scope l.0.elements actions) (λ right. Ok (rule_of name l.0 right)) rule l.2 in
      let left = each-more (with_cond classes) (with_cond (classes ++ more)) with_cond-more no_conditions conds l.0 l.1 in
      let right = each-more (with_action classes l.0.elements) (with_action (classes ++ more) l.0.elements) (with_action-more l.0.elements (elements-within conds l.0 l.1)) (record { actions = []; scope = l.0.scope }) actions r.0 r.1 in
      ap (λ o. o >>= λ left. right_side (classes ++ more) left.scope left.elements actions >>= λ right. Ok (rule_of name left right)) left
      ∙ ap (λ o. o >>= λ right. Ok (rule_of name l.0 right)) right
      ∙ r.2
