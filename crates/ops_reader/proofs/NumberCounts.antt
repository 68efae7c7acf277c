-- Each number of a name in forms is one of a token's.
use Rattle.std.proofs.Common.{◌≡◌, ℕ, zero, suc, ◌≤◌, List, [], ◌∷◌, ◌++◌, Bool, true, false, Option, Some, None, inl, inr, length, refl, ap, subst, length-append, arith}
use Rattle.std.specs.List.{flat_map}
use Rattle.ops_text.specs.Names.{Names}
use Rattle.rule_base.specs.declared.value.Value.{Value}
use Rattle.rule_base.specs.declared.value.Value.TheVariants as a_value
use Rattle.rule_base.specs.declared.condition.Pred.{Pred}
use Rattle.rule_base.specs.declared.condition.Pred.TheVariants as pred
use Rattle.rule_base.specs.Expression.{Tree, single, joined, Leaf, number, parentheses}
use Rattle.rule_base.specs.Expression as tree
use Rattle.ops_reader.specs.declared.form.Form.{Form}
use Rattle.ops_reader.specs.declared.form.Form.TheVariants as a_form
use Rattle.ops_reader.specs.declared.form.FormCond.{FormCond}
use Rattle.ops_reader.specs.declared.form.Simple.{Simple}
use Rattle.ops_reader.specs.declared.form.Simple.TheVariants as a_test
use Rattle.ops_reader.specs.declared.form.FormArg.{FormArg}
use Rattle.ops_reader.specs.declared.form.FormArg.TheVariants as an_argument
use Rattle.ops_reader.specs.declared.form.FormAction.{FormAction}
use Rattle.ops_reader.specs.declared.form.FormAction.TheVariants as an_action
use Rattle.ops_reader.specs.declared.form.At.{At}
use Rattle.ops_reader.specs.declared.form.At.TheVariants as a_place
use Rattle.ops_reader.specs.declared.form.FormTerm.{FormTerm}
use Rattle.ops_reader.specs.declared.form.FormTerm.TheVariants as a_term
use Rattle.ops_reader.specs.declared.form.FormItem.{FormItem}
use Rattle.ops_reader.specs.declared.form.FormItem.TheVariants as an_item
use Rattle.ops_reader.specs.FormTree.{form_tree}
use Rattle.ops_tokens.specs.Token.{Token}
use Rattle.ops_tokens.specs.Naming.{symbol_name, constant_name, literal_name, variable_name}
use Rattle.ops_reader.specs.Grammar.{Phrase, nothing, never, either, ◌⨾◌, any, some, naming, symbol, constant, literal, argument, setting, compared, simple, alone, test, pattern, signed, condition, expression, operand, term, designator, item, action, form, IsText}
use Rattle.ops_reader.specs.Named.{numbers_in_value, numbers_in_argument, numbers_in_setting, numbers_in_simple, numbers_in_option, numbers_in_condition, numbers_in_tree, numbers_in_leaf, numbers_in_term, numbers_in_designator, numbers_in_item, numbers_in_action, numbers_in_form}

-- a phrase has a token for each of these numbers
record Spells (phrase : Phrase) (numbers : List ℕ) : Type 0 where
  room : (before : Names) (tokens : List Token) (after : Names) → phrase before tokens after → length numbers ≤ length tokens

none : (phrase : Phrase) → Spells phrase []
none phrase = record { room = λ before tokens after h. omega arith }

one_name : (name_of : Token → Option (List ℕ)) (n : ℕ) → Spells (naming name_of n) (n ∷ [])
one_name name_of n = record { room = λ before tokens after h. omega (arith, ap length h.2) }

both : {p q : Phrase} {ms ns : List ℕ} → Spells p ms → Spells q ns → Spells (p ⨾ q) (ms ++ ns)
both {p} {q} {ms} {ns} first second = record {
  room = λ before tokens after h.
      omega (arith, ap length h.cut, length-append h.front h.back, length-append ms ns, first.room before h.front h.between h.of_first, second.room h.between h.back after h.of_second);
}

in_first : {p q : Phrase} {ns : List ℕ} → Spells p ns → Spells (p ⨾ q) ns
in_first first = record { room = λ before tokens after h. omega (arith, ap length h.cut, length-append h.front h.back, first.room before h.front h.between h.of_first) }

in_second : {p q : Phrase} {ns : List ℕ} → Spells q ns → Spells (p ⨾ q) ns
in_second second = record { room = λ before tokens after h. omega (arith, ap length h.cut, length-append h.front h.back, second.room h.between h.back after h.of_second) }

either_way : {p q : Phrase} {ns : List ℕ} → Spells p ns → Spells q ns → Spells (either p q) ns
either_way {p} {q} {ns} one other = record { room = room }
  where
    room : (before : Names) (tokens : List Token) (after : Names) → either p q before tokens after → length ns ≤ length tokens
    room before tokens after (inl h) = one.room before tokens after h
    room before tokens after (inr h) = other.room before tokens after h

no_way : (ns : List ℕ) → Spells never ns
no_way ns = record { room = λ before tokens after h. absurd h }

-- as many numbers in another order
as_many : {p : Phrase} {ms ns : List ℕ} → Spells p ms → length ns ≡ length ms → Spells p ns
as_many h same = record { room = λ before tokens after k. omega (arith, same, h.room before tokens after k) }

in_each : {A : Type 0} (phrase : A → Phrase) (numbers : A → List ℕ) → ((a : A) → Spells (phrase a) (numbers a)) → (xs : List A) → Spells (any phrase xs) (flat_map numbers xs)
in_each phrase numbers each [] = none nothing
in_each phrase numbers each (x ∷ xs) = both (each x) (in_each phrase numbers each xs)

in_some : {A : Type 0} (phrase : A → Phrase) (numbers : A → List ℕ) → ((a : A) → Spells (phrase a) (numbers a)) → (xs : List A) → Spells (some phrase xs) (flat_map numbers xs)
in_some phrase numbers each [] = none never
in_some phrase numbers each (x ∷ xs) = in_each phrase numbers each (x ∷ xs)

-- values
in_constant : (v : Value) → Spells (constant v) (numbers_in_value v)
in_constant (a_value.Int z) = none (constant (a_value.Int z))
in_constant (a_value.Sym n) = one_name constant_name n

in_literal : (v : Value) → Spells (literal v) (numbers_in_value v)
in_literal (a_value.Int z) = none (literal (a_value.Int z))
in_literal (a_value.Sym n) = one_name literal_name n

in_argument : (a : FormArg) → Spells (argument a) (numbers_in_argument a)
in_argument (an_argument.Con v) = in_constant v
in_argument (an_argument.Name n) = one_name variable_name n

in_setting : {A : Type 0} (phrase : A → Phrase) (numbers : A → List ℕ) → ((a : A) → Spells (phrase a) (numbers a)) → (set : ℕ × A) → Spells (setting phrase set) (numbers_in_setting numbers set)
in_setting phrase numbers each set = both (in_second (one_name symbol_name set.0)) (each set.1)

-- condition elements
in_compared : (p : Pred) (phrase : Phrase) (ns : List ℕ) → Spells phrase ns → Spells (compared p phrase) ns
in_compared pred.Eq phrase ns h = no_way ns
in_compared p phrase ns h = in_second h

in_simple : (s : Simple) → Spells (simple s) (numbers_in_simple s)
in_simple (a_test.Plain a) = either_way (in_argument a) (in_second (in_argument a))
in_simple (a_test.Cmp p a) = in_compared p (argument a) (numbers_in_argument a) (in_argument a)
in_simple (a_test.OneOf values) = in_first (in_second (in_each constant numbers_in_value in_constant values))

in_alone : (tests : List Simple) → Spells (alone tests) (flat_map numbers_in_simple tests)
in_alone [] = none never
in_alone (one ∷ []) = as_many (in_simple one) (omega (arith, length-append (numbers_in_simple one) []))
in_alone (one ∷ other ∷ more) = no_way (flat_map numbers_in_simple (one ∷ other ∷ more))

in_test : (tests : List Simple) → Spells (test tests) (flat_map numbers_in_simple tests)
in_test tests = either_way (in_alone tests) (in_first (in_second (in_each simple numbers_in_simple in_simple tests)))

in_pattern : (c : FormCond) → Spells (pattern c) (c.class ∷ flat_map (numbers_in_setting (flat_map numbers_in_simple)) c.tests)
in_pattern c = in_first (both (in_second (one_name symbol_name c.class)) (in_each (setting test) (numbers_in_setting (flat_map numbers_in_simple)) (in_setting test (flat_map numbers_in_simple) in_test) c.tests))

in_signed : (negated : Bool) (named : Option ℕ) (p : Phrase) (class : ℕ) (ns : List ℕ) → Spells p (class ∷ ns) → Spells (signed negated named p) (class ∷ numbers_in_option named ++ ns)
in_signed false None p class ns h = h
in_signed true None p class ns h = in_second h
in_signed false (Some name) p class ns h =
    let named = one_name variable_name name in
    either_way
    (as_many {ms = name ∷ class ∷ ns} (in_first (both (in_second named) h)) (omega arith))
    (as_many {ms = class ∷ ns ++ name ∷ []} (in_first (both (in_second h) named)) (omega (arith, length-append ns (name ∷ []))))
in_signed true (Some name) p class ns h = no_way (class ∷ name ∷ ns)

in_condition : (c : FormCond) → Spells (condition c) (numbers_in_condition c)
in_condition c = in_signed c.negated c.named (pattern c) c.class (flat_map (numbers_in_setting (flat_map numbers_in_simple)) c.tests) (in_pattern c)

-- actions
mutual
  in_expression : (room : ℕ) (t : Tree) → Spells (expression room t) (numbers_in_tree t)
  in_expression room (single leaf) = in_operand room leaf
  in_expression room (joined leaf op rest) = both (in_first (in_operand room leaf)) (in_expression room rest)

  in_operand : (room : ℕ) (leaf : Leaf) → Spells (operand room leaf) (numbers_in_leaf leaf)
  in_operand room (number z) = none (operand room (number z))
  in_operand room (tree.variable n) = one_name variable_name n
  in_operand zero (parentheses inner) = no_way (numbers_in_tree inner)
  in_operand (suc room) (parentheses inner) = in_first (in_second (in_expression room inner))

in_term : (t : FormTerm) → Spells (term t) (numbers_in_term t)
in_term (a_term.Con v) = in_literal v
in_term (a_term.Name n) = one_name variable_name n
in_term (a_term.Compute e) = in_first (in_second (in_expression 32 (form_tree e)))

in_designator : (at : At) → Spells (designator at) (numbers_in_designator at)
in_designator (a_place.Number z) = none (designator (a_place.Number z))
in_designator (a_place.Name n) = one_name variable_name n

in_item : (i : FormItem) → Spells (item i) (numbers_in_item i)
in_item (an_item.Put t) = in_term t
in_item other = none (item other)

in_set : (set : ℕ × FormTerm) → Spells (setting term set) (numbers_in_setting numbers_in_term set)
in_set = in_setting term numbers_in_term in_term

in_action : (a : FormAction) → Spells (action a) (numbers_in_action a)
in_action (an_action.Make class sets) = in_first (both (in_second (one_name symbol_name class)) (in_each (setting term) (numbers_in_setting numbers_in_term) in_set sets))
in_action (an_action.Modify at sets) = in_first (both (in_second (in_designator at)) (in_each (setting term) (numbers_in_setting numbers_in_term) in_set sets))
in_action (an_action.Remove ats) = in_first (in_second (in_some designator numbers_in_designator in_designator ats))
in_action (an_action.Bind name t) = in_first (both (in_second (one_name variable_name name)) (in_term t))
in_action (an_action.Write items) = in_first (in_second (in_each item numbers_in_item in_item items))
in_action an_action.Halt = none (action an_action.Halt)

-- forms
singles : (ns : List ℕ) → flat_map (λ n. n ∷ []) ns ≡ ns
singles [] = refl
singles (n ∷ ns) = ap (λ l. n ∷ l) (singles ns)

in_symbols : (ns : List ℕ) → Spells (any symbol ns) ns
in_symbols ns = subst (Spells (any symbol ns)) (singles ns) (in_each symbol (λ n. n ∷ []) (one_name symbol_name) ns)

in_form : (f : Form) → Spells (form f) (numbers_in_form f)
in_form (a_form.Literalize class attrs) = in_first (both (in_second (one_name symbol_name class)) (in_symbols attrs))
in_form (a_form.P name conds actions) =
    in_first
    (both {ms = name ∷ flat_map numbers_in_condition conds} (in_first (both (in_second (one_name symbol_name name)) (in_some condition numbers_in_condition in_condition conds)))
    (in_each action numbers_in_action in_action actions))
in_form (a_form.Make class sets) =
    in_first (both (in_second (one_name symbol_name class)) (in_each (setting literal) (numbers_in_setting numbers_in_value) (in_setting literal numbers_in_value in_literal) sets))
in_form (a_form.Strategy mea) = none (form (a_form.Strategy mea))
in_form (a_form.Watch level) = none (form (a_form.Watch level))

pub a_token_each : (forms : List Form) (before : Names) (tokens : List Token) (after : Names) → IsText before forms tokens after → length (flat_map numbers_in_form forms) ≤ length tokens
a_token_each forms = (in_each form numbers_in_form in_form forms).room
