-- Of which kinds violations are: those of a program are never of a memory file's alone, and a memory file's are of three.
use Rattle.std.proofs.Common.{◌≡◌, ℕ, ◌+◌, Bool, true, false, List, [], ◌∷◌, ◌++◌, Option, Some, None, Result, Ok, Err, length, map, slice_set, pos, negsuc, zero, suc, refl, sym, ap, ◌∙◌, subst}
use Rattle.std.specs.List.{AllByRecursion}
use Rattle.rule_base.specs.declared.value.Value.{Value}
use Rattle.rule_base.specs.declared.expression.Op.{Op}
use Rattle.rule_base.specs.declared.expression.Operand.{Operand, roll-Operand}
use Rattle.rule_base.specs.declared.expression.Expr.{Expr, roll-Expr}
use Rattle.rule_base.specs.declared.expression.Operand.TheOpen as made
use Rattle.rule_base.specs.declared.condition.Arg.TheVariants as arg
use Rattle.rule_base.specs.declared.condition.Test.TheVariants as test
use Rattle.rule_base.specs.declared.element.Element.{Element}
use Rattle.rule_base.specs.declared.action.Term.TheVariants as term
use Rattle.rule_base.specs.declared.action.Item.TheVariants as item
use Rattle.rule_base.specs.declared.action.Action.TheVariants as action
use Rattle.rule_base.specs.declared.program.Class.{Class}
use Rattle.rule_base.specs.declared.program.Rule.{Rule}
use Rattle.rule_base.specs.declared.program.Program.{Program}
use Rattle.rule_base.specs.Chains.{◌>>=◌}
use Rattle.ops_reader.specs.declared.form.FormArg.TheVariants as written
use Rattle.ops_reader.specs.declared.form.Simple.{Simple}
use Rattle.ops_reader.specs.declared.form.Simple.TheVariants as simple
use Rattle.ops_reader.specs.declared.form.FormOperand.{FormOperand, roll-FormOperand, map-FormOperand}
use Rattle.ops_reader.specs.declared.form.FormExpr.{FormExpr, roll-FormExpr}
use Rattle.ops_reader.specs.declared.form.FormOperand.TheOpen as open'
use Rattle.ops_reader.specs.declared.form.FormOperand.TheShapes.{former-FormExpr-rest-at-2}
use Rattle.ops_reader.specs.declared.form.FormOperand.TheFolds.{fold-roll-FormOperand, fold-roll-FormExpr, ind-FormExpr}
use Rattle.ops_reader.specs.declared.form.FormTerm.{FormTerm}
use Rattle.ops_reader.specs.declared.form.FormTerm.TheVariants as form_term
use Rattle.ops_reader.specs.declared.form.FormItem.{FormItem}
use Rattle.ops_reader.specs.declared.form.FormItem.TheVariants as form_item
use Rattle.ops_reader.specs.declared.form.At.{At}
use Rattle.ops_reader.specs.declared.form.At.TheVariants as at
use Rattle.ops_reader.specs.declared.form.FormCond.{FormCond}
use Rattle.ops_reader.specs.declared.form.FormAction.{FormAction}
use Rattle.ops_reader.specs.declared.form.FormAction.TheVariants as form_action
use Rattle.ops_reader.specs.declared.form.Form.{Form}
use Rattle.ops_reader.specs.declared.form.Form.TheVariants as form
use Rattle.rule_checker.specs.declared.refusal.CheckKind.{CheckKind}
use Rattle.rule_checker.specs.declared.refusal.CheckKind.TheVariants.{UnknownClass, UnknownAttribute, Twice, FirstNegated, Unbound, BadDesignator, TooMany, NotInitial}
use Rattle.rule_checker.specs.declared.scope.Scope.{Scope}
use Rattle.rule_checker.specs.declared.condition_tests.TestsSoFar.{TestsSoFar}
use Rattle.rule_checker.specs.declared.left_side.Elements.{Elements}
use Rattle.rule_checker.specs.declared.left_side.LeftSide.{LeftSide}
use Rattle.rule_checker.specs.declared.right_side.RightSide.{RightSide}
use Rattle.rule_checker.specs.Walk.{refused_if, found_or, after_each}
use Rattle.rule_checker.specs.Forms.{Violation, at_form, after_forms}
use Rattle.rule_checker.specs.Classes.{not_yet_declared, few_classes, new_attribute, few_attributes, with_attribute, with_class, declared_class, attributes_at, has_attribute}
use Rattle.rule_checker.specs.Makes.{with_value, values_of, make_of}
use Rattle.rule_checker.specs.Scope.{variable_of, bound_to_its_left, behind}
use Rattle.rule_checker.specs.ConditionTests.{with_test, with_simple, with_tests, tests_of}
use Rattle.rule_checker.specs.LeftSide.{few_conditions, first_is_positive, new_element_variable, elements_after, with_pattern, with_cond, no_conditions, left_side}
use Rattle.rule_checker.specs.Expressions.{MadeOperand, MadeExpression, with_inner, with_operand, joined, operand_of, expression_of}
use Rattle.rule_checker.specs.Terms.{term_of, item_of, with_item}
use Rattle.rule_checker.specs.RightSide.{few_actions, known_designator, setting_of, with_setting, with_designator, make_action, attributes_of, modify_action, set_variable, with_plain_action, with_bind, after_action, with_action, right_side}
use Rattle.rule_checker.specs.Rules.{new_rule_name, few_rules, rule_of, checked_rule, with_rule}
use Rattle.rule_checker.specs.Checked.{with_form, no_program, checked}
use Rattle.rule_checker.specs.Opening.{is_make, with_made, with_initial, opening_list}
use Rattle.rule_checker.specs.Laws.{is_of_a_program, is_of_a_memory_file}
use Rattle.rule_checker.proofs.ExpressionLemmas.{made_each, mapped}

-- a violation is of these kinds alone
record Only (may : CheckKind → Bool) {A : Type 0} (defined : Result A CheckKind) : Type 0 where
  kinds : (kind : CheckKind) → defined ≡ Err kind → may kind ≡ true

module _ (may : CheckKind → Bool) where
  passes : {A : Type 0} (a : A) → Only may (Ok a)
  passes a = record { kinds = λ kind e. absurd (cc) }

  fails : {A : Type 0} (k : CheckKind) → may k ≡ true → Only may {A = A} (Err k)
  fails k h = record { kinds = λ kind e. let same : k ≡ kind = cc in subst (λ x. may x ≡ true) same h }

  chain : {A B : Type 0} (first : Result A CheckKind) (more : A → Result B CheckKind) → Only may first → ((a : A) → Only may (more a)) → Only may (first >>= more)
  chain (Ok a) more f g = g a
  chain (Err k) more f g = fails k (f.kinds k refl)

  refused : (b : Bool) (k : CheckKind) → may k ≡ true → Only may (refused_if b k)
  refused true k h = fails k h
  refused false k h = passes tt

  found : {A : Type 0} (o : Option A) (k : CheckKind) → may k ≡ true → Only may (found_or o k)
  found None k h = fails k h
  found (Some a) k h = passes a

  each : {S A : Type 0} (step : S → A → Result S CheckKind) → ((s : S) (a : A) → Only may (step s a)) → (s : S) (xs : List A) → Only may (after_each step s xs)
  each step h s [] = passes s
  each step h s (a ∷ rest) = chain (step s a) (λ next. after_each step next rest) (h s a) (λ next. each step h next rest)

  forms : {S : Type 0} (step : S → Form → Result S CheckKind) → ((s : S) (f : Form) → Only may (step s f)) → (number : ℕ) (s : S) (fs : List Form) (v : Violation) → after_forms step number s fs ≡ Err v → may v.kind ≡ true
  forms step h number s [] v e = absurd (cc)
  forms {S} step h number s (f ∷ fs) v e = by (step s f) (h s f) (λ next. forms step h (number + 1) next fs v) e
    where
      by : (o : Result S CheckKind) → Only may o → ((next : S) → after_forms step (number + 1) next fs ≡ Err v → may v.kind ≡ true) → (at_form number o >>= λ next. after_forms step (number + 1) next fs) ≡ Err v → may v.kind ≡ true
      by (Ok a) only later is = later a is
      by (Err k) only later is = let same : k ≡ v.kind = ap (λ (x : Violation). x.kind) (let whole : record { form = number; kind = k } ≡ v = cc in whole) in subst (λ x. may x ≡ true) same (only.kinds k refl)

  -- makes, whose violations may be of both files
  make_kinds : may UnknownClass ≡ true → may UnknownAttribute ≡ true → (classes : List Class) (name : ℕ) (sets : List (ℕ × Value)) → Only may (make_of classes name sets)
  make_kinds unknown_class unknown_attribute classes name sets =
      chain (declared_class classes name) (λ class. values_of (attributes_at classes class) sets >>= λ values. Ok (class, values)) (found _ UnknownClass unknown_class) (λ class.
      chain (values_of (attributes_at classes class) sets) (λ values. Ok (class, values))
      (each (with_value (attributes_at classes class)) (λ values set. chain (has_attribute (attributes_at classes class) set.0) (λ attr. Ok (slice_set values attr set.1)) (found _ UnknownAttribute unknown_attribute) (λ attr. passes _)) _ sets)
      (λ values. passes _))

-- a memory file's
initial_kinds : (classes : List Class) (elements : List Element) (f : Form) → Only is_of_a_memory_file (with_initial classes elements f)
initial_kinds classes elements f = chain is_of_a_memory_file (is_make classes f) (λ make. Ok (with_made elements make)) (by f) (λ make. passes is_of_a_memory_file _)
  where
    by : (g : Form) → Only is_of_a_memory_file (is_make classes g)
    by (form.Make class sets) = make_kinds is_of_a_memory_file refl refl classes class sets
    by (form.Literalize class attrs) = fails is_of_a_memory_file NotInitial refl
    by (form.P name conds actions) = fails is_of_a_memory_file NotInitial refl
    by (form.Strategy mea) = fails is_of_a_memory_file NotInitial refl
    by (form.Watch level) = fails is_of_a_memory_file NotInitial refl

pub opening-kinds : (program : Program) (memory : List Form) (v : Violation) → opening_list program memory ≡ Err v → is_of_a_memory_file v.kind ≡ true
opening-kinds program memory v e = forms is_of_a_memory_file (with_initial program.classes) (initial_kinds program.classes) 1 _ memory v e

abbrev May : CheckKind → Bool
May = is_of_a_program

-- classes
attribute_kinds : (attrs : List ℕ) (name : ℕ) → Only May (with_attribute attrs name)
attribute_kinds attrs name = chain May (new_attribute attrs name) (λ _. few_attributes attrs >>= λ _. Ok (attrs ++ name ∷ [])) (refused May _ Twice refl) (λ _. chain May (few_attributes attrs) (λ _. Ok (attrs ++ name ∷ [])) (refused May _ TooMany refl) (λ _. passes May _))

class_kinds : (classes : List Class) (name : ℕ) (attrs : List ℕ) → Only May (with_class classes name attrs)
class_kinds classes name attrs =
    let last : List ℕ → Result (List Class) CheckKind = λ own. Ok (classes ++ record { name = name; attrs = own } ∷ []) in
    chain May (not_yet_declared classes name) (λ _. few_classes classes >>= λ _. after_each with_attribute [] attrs >>= last) (refused May _ Twice refl) (λ _.
    chain May (few_classes classes) (λ _. after_each with_attribute [] attrs >>= last) (refused May _ TooMany refl) (λ _.
    chain May (after_each with_attribute [] attrs) last (each May with_attribute attribute_kinds [] attrs) (λ own. passes May _)))

-- condition elements
simple_kinds : (negated : Bool) (attr : ℕ) (done : TestsSoFar) (s : Simple) → Only May (with_simple negated attr done s)
simple_kinds negated attr done (simple.Plain (written.Con value)) = passes May _
simple_kinds negated attr done (simple.Plain (written.Name name)) = passes May _
simple_kinds negated attr done (simple.Cmp pred (written.Con value)) = passes May _
simple_kinds negated attr done (simple.Cmp pred (written.Name name)) = chain May (bound_to_its_left done.scope name) (λ var. Ok (with_test done (test.Cmp attr pred (arg.Var var)))) (found May _ Unbound refl) (λ var. passes May _)
simple_kinds negated attr done (simple.OneOf among) = passes May _

tests_kinds : (scope : Scope) (negated : Bool) (attrs : List ℕ) (tests : List (ℕ × List Simple)) → Only May (tests_of scope negated attrs tests)
tests_kinds scope negated attrs tests =
    each May (with_tests negated attrs) (λ done w. chain May (has_attribute attrs w.0) (λ attr. after_each (with_simple negated attr) done w.1) (found May _ UnknownAttribute refl) (λ attr. each May (with_simple negated attr) (simple_kinds negated attr) done w.1)) (record { tests = []; scope = scope }) tests

elements_kinds : (elements : Elements) (negated : Bool) (class : ℕ) (named : Option ℕ) → Only May (elements_after elements negated class named)
elements_kinds elements true class named = passes May _
elements_kinds elements false class None = passes May _
elements_kinds elements false class (Some name) =
    chain May (new_element_variable elements name) (λ _. Ok (record { classes = elements.classes ++ class ∷ []; names = elements.names ++ (name, length elements.classes) ∷ [] })) (refused May _ Twice refl) (λ _. passes May _)

cond_kinds : (classes : List Class) (left : LeftSide) (cond : FormCond) → Only May (with_cond classes left cond)
cond_kinds classes left cond =
    let inside : ℕ → Result LeftSide CheckKind = λ class. with_pattern class (attributes_at classes class) left cond in
    let last : ℕ → TestsSoFar → Elements → Result LeftSide CheckKind = λ class done elements. Ok (record { conds = left.conds ++ record { negated = cond.negated; class = class; tests = done.tests } ∷ []; scope = behind done.scope; elements = elements }) in
    chain May (few_conditions left) (λ _. first_is_positive left cond.negated >>= λ _. declared_class classes cond.class >>= inside) (refused May _ TooMany refl) (λ _.
    chain May (first_is_positive left cond.negated) (λ _. declared_class classes cond.class >>= inside) (refused May _ FirstNegated refl) (λ _.
    chain May (declared_class classes cond.class) inside (found May _ UnknownClass refl) (λ class.
    chain May (tests_of left.scope cond.negated (attributes_at classes class) cond.tests) (λ done. elements_after left.elements cond.negated class cond.named >>= last class done) (tests_kinds left.scope cond.negated (attributes_at classes class) cond.tests) (λ done.
    chain May (elements_after left.elements cond.negated class cond.named) (last class done) (elements_kinds left.elements cond.negated class cond.named) (λ elements. passes May _)))))

-- expressions
module _ (scope : Scope) where
  abbrev IsOperand : FormOperand → Type 0
  IsOperand o = Only May (operand_of o scope)

  abbrev IsExpression : FormExpr → Type 0
  IsExpression e = Only May (expression_of e scope)

  operand_step : (y : open'.FormOperand-F ((o : FormOperand) × IsOperand o) ((e : FormExpr) × IsExpression e)) → IsOperand (roll-FormOperand (map-FormOperand ((o : FormOperand) × IsOperand o) ((e : FormExpr) × IsExpression e) FormOperand FormExpr (λ e. e.0) (λ e. e.0) y))
  operand_step (open'.Num z) = subst (Only May) (sym (ap (λ (m : MadeOperand). m scope) (fold-roll-FormOperand MadeOperand MadeExpression with_inner joined (open'.Num z)))) (passes May _)
  operand_step (open'.Name name) = subst (Only May) (sym (ap (λ (m : MadeOperand). m scope) (fold-roll-FormOperand MadeOperand MadeExpression with_inner joined (open'.Name name))))
      (chain May (bound_to_its_left scope name) (λ var. Ok (roll-Operand (made.Var var))) (found May _ Unbound refl) (λ var. passes May _))
  operand_step (open'.Paren inner) = subst (Only May) (sym (ap (λ (m : MadeOperand). m scope) (fold-roll-FormOperand MadeOperand MadeExpression with_inner joined (open'.Paren inner.0))))
      (chain May (expression_of inner.0 scope) (λ e. Ok (roll-Operand (made.Paren e))) inner.1 (λ e. passes May _))

  rest_kinds : (done : List (Op × Operand)) (xs : List (Op × FormOperand)) → AllByRecursion (λ (x : Op × FormOperand). IsOperand x.1) xs → Only May (after_each (with_operand scope) done (made_each xs))
  rest_kinds done [] all = passes May _
  rest_kinds done (x ∷ xs) all =
      chain May (with_operand scope done (x.0, operand_of x.1)) (λ next. after_each (with_operand scope) next (made_each xs))
      (chain May (operand_of x.1 scope) (λ operand. Ok (done ++ (x.0, operand) ∷ [])) all.0 (λ operand. passes May _)) (λ next. rest_kinds next xs all.1)

  expression_step : (x : open'.FormExpr-F FormOperand FormExpr) → IsOperand x.first → AllByRecursion (λ (w : Op × FormOperand). IsOperand w.1) x.rest → IsExpression (roll-FormExpr x)
  expression_step x first all =
      let last : Operand → List (Op × Operand) → Result Expr CheckKind = λ f rest. Ok (roll-Expr (record { first = f; rest = rest })) in
      let parts = ap (λ (made : MadeExpression). made scope) (fold-roll-FormExpr MadeOperand MadeExpression with_inner joined x) ∙ ap (λ rest. joined (record { first = operand_of x.first; rest = rest }) scope) (mapped x.rest) in
      subst (Only May) (sym parts) (chain May (operand_of x.first scope) (λ f. after_each (with_operand scope) [] (made_each x.rest) >>= last f) first (λ f. chain May (after_each (with_operand scope) [] (made_each x.rest)) (last f) (rest_kinds [] x.rest all) (λ rest. passes May _)))

  each_operand : (ys : List (Op × ((o : FormOperand) × IsOperand o))) → AllByRecursion (λ (w : Op × FormOperand). IsOperand w.1) (map ((former-FormExpr-rest-at-2).map ((o : FormOperand) × IsOperand o) FormOperand (λ e. e.0)) ys)
  each_operand [] = tt
  each_operand (y ∷ ys) = (y.1.1, each_operand ys)

  expression_kinds : (e : FormExpr) → IsExpression e
  expression_kinds = ind-FormExpr IsOperand IsExpression
      (λ x y is. subst (λ z. IsOperand (roll-FormOperand z)) is (operand_step y))
      (λ x y is. expression_step x (subst (λ (z : open'.FormExpr-F FormOperand FormExpr). IsOperand z.first) is y.first.1)
      (subst (λ (z : open'.FormExpr-F FormOperand FormExpr). AllByRecursion (λ (w : Op × FormOperand). IsOperand w.1) z.rest) is (each_operand y.rest)))

-- actions
term_kinds : (scope : Scope) (w : FormTerm) → Only May (term_of scope w)
term_kinds scope (form_term.Con value) = passes May _
term_kinds scope (form_term.Name name) = chain May (bound_to_its_left scope name) (λ var. Ok (term.Var var)) (found May _ Unbound refl) (λ var. passes May _)
term_kinds scope (form_term.Compute e) = chain May (expression_of e scope) (λ m. Ok (term.Compute m)) (expression_kinds scope e) (λ m. passes May _)

item_kinds : (scope : Scope) (w : FormItem) → Only May (item_of scope w)
item_kinds scope (form_item.Put put) = chain May (term_of scope put) (λ t. Ok (item.Put t)) (term_kinds scope put) (λ t. passes May _)
item_kinds scope form_item.Crlf = passes May _
item_kinds scope (form_item.Tabto column) = passes May _
item_kinds scope (form_item.Rjust width) = passes May _

designator_kinds : (elements : Elements) (w : At) → Only May (known_designator elements w)
designator_kinds elements (at.Number (pos zero)) = fails May BadDesignator refl
designator_kinds elements (at.Number (pos (suc n))) = chain May (refused_if _ BadDesignator) (λ _. Ok n) (refused May _ BadDesignator refl) (λ _. passes May _)
designator_kinds elements (at.Number (negsuc n)) = fails May BadDesignator refl
designator_kinds elements (at.Name name) = found May _ BadDesignator refl

settings_kinds : (attrs : List ℕ) (scope : Scope) (sets : List (ℕ × FormTerm)) → Only May (after_each (with_setting attrs scope) [] sets)
settings_kinds attrs scope sets = each May (with_setting attrs scope) (λ done w.
    chain May (setting_of attrs scope w) (λ set. Ok (done ++ set ∷ []))
    (chain May (has_attribute attrs w.0) (λ attr. term_of scope w.1 >>= λ t. Ok (attr, t)) (found May _ UnknownAttribute refl) (λ attr. chain May (term_of scope w.1) (λ t. Ok (attr, t)) (term_kinds scope w.1) (λ t. passes May _)))
    (λ set. passes May _)) [] sets

after_action_kinds : (classes : List Class) (elements : Elements) (right : RightSide) (w : FormAction) → Only May (after_action classes elements right w)
after_action_kinds classes elements right (form_action.Make name sets) =
    chain May (make_action classes right.scope name sets) (λ a. Ok (with_plain_action right a))
    (chain May (declared_class classes name) (λ class. after_each (with_setting (attributes_at classes class) right.scope) [] sets >>= λ done. Ok (action.Make class (length (attributes_at classes class)) done)) (found May _ UnknownClass refl)
    (λ class. chain May (after_each (with_setting (attributes_at classes class) right.scope) [] sets) (λ done. Ok (action.Make class (length (attributes_at classes class)) done)) (settings_kinds (attributes_at classes class) right.scope sets) (λ done. passes May _)))
    (λ a. passes May _)
after_action_kinds classes elements right (form_action.Modify w sets) =
    chain May (modify_action classes elements right.scope w sets) (λ a. Ok (with_plain_action right a))
    (chain May (known_designator elements w) (λ place. after_each (with_setting (attributes_of classes elements place) right.scope) [] sets >>= λ done. Ok (action.Modify place done)) (designator_kinds elements w)
    (λ place. chain May (after_each (with_setting (attributes_of classes elements place) right.scope) [] sets) (λ done. Ok (action.Modify place done)) (settings_kinds (attributes_of classes elements place) right.scope sets) (λ done. passes May _)))
    (λ a. passes May _)
after_action_kinds classes elements right (form_action.Remove places) =
    chain May (after_each (with_designator elements) [] places) (λ done. Ok (with_plain_action right (action.Remove done)))
    (each May (with_designator elements) (λ done w. chain May (known_designator elements w) (λ place. Ok (done ++ place ∷ [])) (designator_kinds elements w) (λ place. passes May _)) [] places) (λ done. passes May _)
after_action_kinds classes elements right (form_action.Bind name value) =
    chain May (term_of right.scope value) (λ t. Ok (with_bind right t (set_variable right.scope name (variable_of right.scope name)))) (term_kinds right.scope value) (λ t. passes May _)
after_action_kinds classes elements right (form_action.Write items) =
    chain May (after_each (with_item right.scope) [] items) (λ done. Ok (with_plain_action right (action.Write done)))
    (each May (with_item right.scope) (λ done w. chain May (item_of right.scope w) (λ i. Ok (done ++ i ∷ [])) (item_kinds right.scope w) (λ i. passes May _)) [] items) (λ done. passes May _)
after_action_kinds classes elements right form_action.Halt = passes May _

right_side_kinds : (classes : List Class) (scope : Scope) (elements : Elements) (actions : List FormAction) → Only May (right_side classes scope elements actions)
right_side_kinds classes scope elements actions =
    each May (with_action classes elements) (λ right w. chain May (few_actions right) (λ _. after_action classes elements right w) (refused May _ TooMany refl) (λ _. after_action_kinds classes elements right w)) (record { actions = []; scope = scope }) actions

-- forms
rule_kinds : (classes : List Class) (rules : List Rule) (name : ℕ) (conds : List FormCond) (actions : List FormAction) → Only May (with_rule classes rules name conds actions)
rule_kinds classes rules name conds actions =
    let last : Rule → Result (List Rule) CheckKind = λ rule. Ok (rules ++ rule ∷ []) in
    chain May (new_rule_name rules name) (λ _. few_rules rules >>= λ _. checked_rule classes name conds actions >>= last) (refused May _ Twice refl) (λ _.
    chain May (few_rules rules) (λ _. checked_rule classes name conds actions >>= last) (refused May _ TooMany refl) (λ _.
    chain May (checked_rule classes name conds actions) last
    (chain May (left_side classes conds) (λ left. right_side classes left.scope left.elements actions >>= λ right. Ok (rule_of name left right)) (each May (with_cond classes) (cond_kinds classes) no_conditions conds)
    (λ left. chain May (right_side classes left.scope left.elements actions) (λ right. Ok (rule_of name left right)) (right_side_kinds classes left.scope left.elements actions) (λ right. passes May _)))
    (λ rule. passes May _)))

form_kinds : (p : Program) (f : Form) → Only May (with_form p f)
form_kinds p (form.Literalize class attrs) = chain May (with_class p.classes class attrs) (λ classes. Ok (record p { classes = classes })) (class_kinds p.classes class attrs) (λ classes. passes May _)
form_kinds p (form.P name conds actions) = chain May (with_rule p.classes p.rules name conds actions) (λ rules. Ok (record p { rules = rules })) (rule_kinds p.classes p.rules name conds actions) (λ rules. passes May _)
form_kinds p (form.Make class sets) = chain May (make_of p.classes class sets) (λ make. Ok (record p { makes = p.makes ++ make ∷ [] })) (make_kinds May refl refl p.classes class sets) (λ make. passes May _)
form_kinds p (form.Strategy mea) = passes May _
form_kinds p (form.Watch level) = passes May _

pub checked-kinds : (fs : List Form) (v : Violation) → checked fs ≡ Err v → is_of_a_program v.kind ≡ true
checked-kinds fs v e = forms May with_form form_kinds 1 no_program fs v e
