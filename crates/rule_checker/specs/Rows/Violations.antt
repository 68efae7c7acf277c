-- Which rule a program violates first.
use Rattle.std.specs.Prelude.{◌≡◌, ℕ, [], ◌∷◌, ◌++◌, pos, replicate, Result, Err}
use Rattle.std.specs.List.{range_with_len}
use Rattle.rule_base.specs.declared.value.Value.TheVariants.{Int}
use Rattle.rule_base.specs.declared.condition.Pred.TheVariants.{Gt}
use Rattle.ops_reader.specs.declared.form.FormArg.TheVariants as written
use Rattle.ops_reader.specs.declared.form.Simple.TheVariants as simple
use Rattle.ops_reader.specs.declared.form.At.TheVariants as at
use Rattle.ops_reader.specs.declared.form.FormTerm.TheVariants as form_term
use Rattle.ops_reader.specs.declared.form.FormAction.TheVariants as form_action
use Rattle.ops_reader.specs.declared.form.Form.TheVariants as form
use Rattle.rule_base.specs.declared.program.Program.{Program}
use Rattle.rule_checker.specs.declared.refusal.CheckKind.{CheckKind}
use Rattle.rule_checker.specs.declared.refusal.CheckKind.TheVariants.{UnknownClass, UnknownAttribute, Twice, FirstNegated, Unbound, BadDesignator, TooMany}
use Rattle.rule_checker.specs.Forms.{Violation}
use Rattle.rule_checker.specs.Checked.{checked}
use Rattle.rule_checker.specs.Rows.Written.{declare_a, declare_b, uses, positive, negated, named_e, rule_r, write, bind, remove, modify_e}

-- this form is the first to violate a rule, of this kind
abbrev pub refused : ℕ → CheckKind → Result Program Violation
refused form kind = Err (record { form = form; kind = kind })

-- classes and rules
pub record AreDeclarationViolations : Type 0 where
  -- (make a) before (literalize a x)
  pub declared_before_use : checked (form.Make 1 [] ∷ declare_a ∷ []) ≡ refused 1 UnknownClass
  -- (make a ^y 1)
  pub attribute_of_another : checked (declare_a ∷ declare_b ∷ form.Make 1 ((7, Int (pos 1)) ∷ []) ∷ []) ≡ refused 3 UnknownAttribute
  pub class_twice : checked (declare_a ∷ declare_b ∷ declare_a ∷ []) ≡ refused 3 Twice
  -- (literalize a x x)
  pub attribute_twice : checked (form.Literalize 1 (2 ∷ 2 ∷ []) ∷ []) ≡ refused 1 Twice
  pub rule_twice : checked (declare_a ∷ rule_r (positive 1 [] ∷ []) [] ∷ rule_r (positive 1 [] ∷ []) [] ∷ []) ≡ refused 3 Twice
  -- the name of a rule comes before its condition elements
  pub name_first : checked (declare_a ∷ rule_r (positive 1 [] ∷ []) [] ∷ rule_r (positive 6 [] ∷ []) [] ∷ []) ≡ refused 3 Twice
  -- a 65th attribute, which is new, and which isn't
  pub many_attributes : checked (form.Literalize 1 (range_with_len 0 65) ∷ []) ≡ refused 1 TooMany
  pub repeated_65th : checked (form.Literalize 1 (range_with_len 0 64 ++ 0 ∷ []) ∷ []) ≡ refused 1 Twice

-- condition elements
pub record AreConditionViolations : Type 0 where
  -- (p r -(a) --> ) and (p r -(b) --> ), where b isn't declared
  pub first_negated : checked (declare_a ∷ rule_r (negated 1 [] ∷ []) [] ∷ []) ≡ refused 2 FirstNegated
  pub negated_before_its_class : checked (declare_a ∷ rule_r (negated 6 [] ∷ []) [] ∷ []) ≡ refused 2 FirstNegated
  pub class_of_a_condition : checked (declare_a ∷ rule_r (positive 6 [] ∷ []) [] ∷ []) ≡ refused 2 UnknownClass
  -- (p r (a ^y > <v>) --> ): the attribute comes before its test
  pub attribute_of_a_condition : checked (declare_a ∷ rule_r (positive 1 ((7, simple.Cmp Gt (written.Name 4) ∷ []) ∷ []) ∷ []) [] ∷ []) ≡ refused 2 UnknownAttribute
  -- (p r (a ^x > <v>) --> )
  pub unbound_predicate : checked (declare_a ∷ rule_r (positive 1 ((2, simple.Cmp Gt (written.Name 4) ∷ []) ∷ []) ∷ []) [] ∷ []) ≡ refused 2 Unbound
  -- (p r (a) -(a ^x <v>) (a ^x > <v>) --> )
  pub local_is_unbound : checked (declare_a ∷ rule_r (positive 1 [] ∷ negated 1 (uses 2 4 ∷ []) ∷ positive 1 ((2, simple.Cmp Gt (written.Name 4) ∷ []) ∷ []) ∷ []) [] ∷ []) ≡ refused 2 Unbound
  -- (p r { <e> (a) } { <e> (a) } --> ), and where the second class isn't declared
  pub element_variable_twice : checked (declare_a ∷ rule_r (named_e 1 ∷ named_e 1 ∷ []) [] ∷ []) ≡ refused 2 Twice
  pub class_before_element_variable : checked (declare_a ∷ rule_r (named_e 1 ∷ named_e 6 ∷ []) [] ∷ []) ≡ refused 2 UnknownClass
  -- 33 condition elements, the last of a class that isn't declared
  pub many_conditions : checked (declare_a ∷ rule_r (replicate 32 (positive 1 []) ++ positive 6 [] ∷ []) [] ∷ []) ≡ refused 2 TooMany

-- actions
pub record AreActionViolations : Type 0 where
  -- (write <v>)
  pub unbound_value : checked (declare_a ∷ rule_r (positive 1 [] ∷ []) (write 4 ∷ []) ∷ []) ≡ refused 2 Unbound
  -- what a negated condition element binds has no value in the actions
  pub local_value : checked (declare_a ∷ rule_r (positive 1 [] ∷ negated 1 (uses 2 4 ∷ []) ∷ []) (write 4 ∷ []) ∷ []) ≡ refused 2 Unbound
  -- (bind <w> <w>)
  pub bind_checks_first : checked (declare_a ∷ rule_r (positive 1 [] ∷ []) (bind 8 (form_term.Name 8) ∷ []) ∷ []) ≡ refused 2 Unbound
  -- (write <e>), where <e> is an element variable
  pub element_variable_is_no_value : checked (declare_a ∷ rule_r (named_e 1 ∷ []) (write 5 ∷ []) ∷ []) ≡ refused 2 Unbound
  -- (remove <v>), where <v> is a value variable
  pub value_is_no_designator : checked (declare_a ∷ rule_r (positive 1 (uses 2 4 ∷ []) ∷ []) (form_action.Remove (at.Name 4 ∷ []) ∷ []) ∷ []) ≡ refused 2 BadDesignator
  pub designator_zero : checked (declare_a ∷ rule_r (positive 1 [] ∷ []) (remove 0 ∷ []) ∷ []) ≡ refused 2 BadDesignator
  -- (p r (a) -(a) --> (remove 2))
  pub designator_of_negated : checked (declare_a ∷ rule_r (positive 1 [] ∷ negated 1 [] ∷ []) (remove 2 ∷ []) ∷ []) ≡ refused 2 BadDesignator
  -- (p r { <e> (a) } --> (modify <e> ^y 1))
  pub attribute_of_a_modify : checked (declare_a ∷ declare_b ∷ rule_r (named_e 1 ∷ []) (modify_e 7 ∷ []) ∷ []) ≡ refused 3 UnknownAttribute
  -- (make a ^y <v>): the attribute comes before its value
  pub attribute_before_value : checked (declare_a ∷ rule_r (positive 1 [] ∷ []) (form_action.Make 1 ((7, form_term.Name 4) ∷ []) ∷ []) ∷ []) ≡ refused 2 UnknownAttribute
  -- 65 actions, the last a make of a class that isn't declared
  pub many_actions : checked (declare_a ∷ rule_r (positive 1 [] ∷ []) (replicate 64 form_action.Halt ++ form_action.Make 6 [] ∷ []) ∷ []) ≡ refused 2 TooMany
