-- Which programs are sound, and which rules no checker may let through.
use Rattle.std.specs.Prelude.{◌≡◌, ℕ, zero, suc, List, [], ◌∷◌, replicate, pos}
use Rattle.rule_base.specs.declared.condition.Pred.TheVariants.{Gt}
use Rattle.rule_base.specs.declared.condition.Arg.TheVariants as arg
use Rattle.rule_base.specs.declared.condition.Test.TheVariants.{Bind, Cmp, OneOf}
use Rattle.rule_base.specs.declared.condition.Cond.{Cond}
use Rattle.rule_base.specs.declared.action.Term.TheVariants.{Con, Var, Compute}
use Rattle.rule_base.specs.declared.action.Item.TheVariants.{Put}
use Rattle.rule_base.specs.declared.action.Action.{Action}
use Rattle.rule_base.specs.declared.action.Action.TheVariants as action
use Rattle.rule_base.specs.declared.expression.Op.TheVariants.{Add}
use Rattle.rule_base.specs.declared.expression.Expr.{Expr}
use Rattle.rule_base.specs.declared.program.Rule.{Rule}
use Rattle.rule_base.specs.declared.program.Program.{Program}
use Rattle.rule_base.specs.Expression.{Tree, single, joined, number, variable, parentheses, tree_of}
use Rattle.rule_base.specs.Sound.{IsSound, IsSoundRule}
use Rattle.rule_base.specs.Examples.Programs.{int, present, absent, is_variable, blocked, either, once, ranges, find_block}

-- a rule with one variable and one positive condition element
abbrev pub one_variable : List Cond → List Action → Rule
one_variable conds actions = record { name = 9; vars = 1; positives = 1; conds = conds; actions = actions }

-- a number in so many parentheses
abbrev pub nested : ℕ → Tree
nested zero = single (number (pos 1))
nested (suc n) = single (parentheses (nested n))

-- so many numbers in parentheses, added up
abbrev pub side_by_side : ℕ → Tree
side_by_side zero = single (number (pos 1))
side_by_side (suc n) = joined (parentheses (single (number (pos 1)))) Add (side_by_side n)

-- a rule over one class of one attribute, which its one condition element binds, that writes what it computes
abbrev pub computing : Expr → Rule
computing e = one_variable (present 0 (Bind 0 0 ∷ []) ∷ []) (action.Write (Put (Compute e) ∷ []) ∷ [])

-- a program of so many classes, each with so many attributes, and no rules
abbrev pub declaring : ℕ → ℕ → Program
declaring classes attributes = record { classes = replicate classes (record { name = 1; attrs = replicate attributes 2 }); rules = []; makes = [] }

-- (modify 2 ^ATTRIBUTE 1) over classes of one, three and two attributes, with a negated condition element between
abbrev pub modifying : ℕ → ℕ → Rule
modifying at attr = record { name = 9; vars = 0; positives = 2; conds = present 0 [] ∷ absent 1 [] ∷ present 2 [] ∷ []; actions = action.Modify at ((attr, Con (int 1)) ∷ []) ∷ [] }

pub record AreSound : Type 0 where
  pub of_blocked : IsSound blocked
  pub of_either : IsSound either
  pub of_once : IsSound once
  pub of_ranges : IsSound ranges
  pub of_find_block : IsSound find_block
  pub compares_its_own : IsSoundRule (1 ∷ []) (one_variable (present 0 [] ∷ absent 0 (Bind 0 0 ∷ is_variable 0 0 ∷ []) ∷ []) [])
  pub binds_and_writes : IsSoundRule (1 ∷ []) (one_variable (present 0 [] ∷ []) (action.Bind 0 (Con (int 1)) ∷ action.Write (Put (Var 0) ∷ []) ∷ []))
  pub second_of_three : IsSoundRule (1 ∷ 3 ∷ 2 ∷ []) (modifying 1 1)
  pub computes : (e : Expr) → tree_of e ≡ joined (variable 0) Add (single (number (pos 1))) → IsSoundRule (1 ∷ []) (computing e)
  pub nested_32 : (e : Expr) → tree_of e ≡ nested 32 → IsSoundRule (1 ∷ []) (computing e)
  pub side_by_side_40 : (e : Expr) → tree_of e ≡ side_by_side 40 → IsSoundRule (1 ∷ []) (computing e)
  pub most_condition_elements : IsSoundRule (1 ∷ []) (record { name = 9; vars = 0; positives = 32; conds = replicate 32 (present 0 []); actions = [] })
  pub most_actions : IsSoundRule (1 ∷ []) (one_variable (present 0 [] ∷ []) (replicate 64 action.Halt))
  pub most_classes : IsSound (declaring 256 1)
  pub most_attributes : IsSound (declaring 1 64)

pub record AreUnsound : Type 0 where
  -- (p u (a) -(a ^x <w>) --> (write <w>)): a negated condition element binds for itself alone
  pub bound_in_negated : IsSoundRule (1 ∷ []) (one_variable (present 0 [] ∷ absent 0 (Bind 0 0 ∷ []) ∷ []) (action.Write (Put (Var 0) ∷ []) ∷ [])) → ⊥
  pub compared_after_negated : IsSoundRule (1 ∷ []) (one_variable (present 0 [] ∷ absent 0 (Bind 0 0 ∷ []) ∷ absent 0 (is_variable 0 0 ∷ []) ∷ []) []) → ⊥
  pub compared_unbound : IsSoundRule (1 ∷ []) (one_variable (present 0 (is_variable 0 0 ∷ Bind 0 0 ∷ []) ∷ []) []) → ⊥
  pub bound_twice : IsSoundRule (1 ∷ []) (one_variable (present 0 (Bind 0 0 ∷ Bind 0 0 ∷ []) ∷ []) []) → ⊥
  pub bound_by_two : IsSoundRule (1 ∷ []) (record { name = 9; vars = 1; positives = 2; conds = present 0 (Bind 0 0 ∷ []) ∷ present 0 (Bind 0 0 ∷ []) ∷ []; actions = [] }) → ⊥
  pub past_variables : IsSoundRule (1 ∷ []) (one_variable (present 0 (Bind 0 1 ∷ []) ∷ []) []) → ⊥
  pub past_variables_in_action : IsSoundRule (1 ∷ []) (one_variable (present 0 [] ∷ []) (action.Bind 1 (Con (int 1)) ∷ [])) → ⊥
  pub first_negated : IsSoundRule (1 ∷ []) (one_variable (absent 0 [] ∷ present 0 [] ∷ []) []) → ⊥
  pub no_condition_element : IsSoundRule (1 ∷ []) (record { name = 9; vars = 0; positives = 0; conds = []; actions = [] }) → ⊥
  pub other_count : IsSoundRule (1 ∷ []) (one_variable (present 0 [] ∷ present 0 [] ∷ []) []) → ⊥
  pub unknown_class : IsSoundRule (1 ∷ []) (one_variable (present 1 [] ∷ []) []) → ⊥
  pub unknown_negated_class : IsSoundRule (1 ∷ []) (one_variable (present 0 [] ∷ absent 1 [] ∷ []) []) → ⊥
  pub unknown_attribute : IsSoundRule (1 ∷ []) (one_variable (present 0 (Bind 1 0 ∷ []) ∷ []) []) → ⊥
  pub unknown_compared : IsSoundRule (1 ∷ []) (one_variable (present 0 (Cmp 1 Gt (arg.Con (int 0)) ∷ []) ∷ []) []) → ⊥
  pub unknown_among : IsSoundRule (1 ∷ []) (one_variable (present 0 (OneOf 1 [] ∷ []) ∷ []) []) → ⊥
  pub unknown_set : IsSoundRule (1 ∷ []) (one_variable (present 0 [] ∷ []) (action.Make 0 1 ((1, Con (int 1)) ∷ []) ∷ [])) → ⊥
  pub unbound_set : IsSoundRule (1 ∷ []) (one_variable (present 0 [] ∷ []) (action.Make 0 1 ((0, Var 0) ∷ []) ∷ [])) → ⊥
  pub other_size : IsSoundRule (1 ∷ []) (one_variable (present 0 [] ∷ []) (action.Make 0 2 [] ∷ [])) → ⊥
  pub no_such_element : IsSoundRule (1 ∷ []) (one_variable (present 0 [] ∷ []) (action.Remove (1 ∷ []) ∷ [])) → ⊥
  pub modifies_past_class : IsSoundRule (1 ∷ 3 ∷ 2 ∷ []) (modifying 1 2) → ⊥
  pub modifies_no_element : IsSoundRule (1 ∷ 3 ∷ 2 ∷ []) (modifying 2 1) → ⊥
  pub written_before_bound : IsSoundRule (1 ∷ []) (one_variable (present 0 [] ∷ []) (action.Write (Put (Var 0) ∷ []) ∷ action.Bind 0 (Con (int 1)) ∷ [])) → ⊥
  pub bound_to_itself : IsSoundRule (1 ∷ []) (one_variable (present 0 [] ∷ []) (action.Bind 0 (Var 0) ∷ [])) → ⊥
  pub computes_unbound : (e : Expr) → tree_of e ≡ joined (variable 1) Add (single (number (pos 1))) → IsSoundRule (1 ∷ []) (computing e) → ⊥
  pub nested_33 : (e : Expr) → tree_of e ≡ nested 33 → IsSoundRule (1 ∷ []) (computing e) → ⊥
  pub condition_elements_33 : IsSoundRule (1 ∷ []) (record { name = 9; vars = 0; positives = 33; conds = replicate 33 (present 0 []); actions = [] }) → ⊥
  pub actions_65 : IsSoundRule (1 ∷ []) (one_variable (present 0 [] ∷ []) (replicate 65 action.Halt)) → ⊥
  pub classes_257 : IsSound (declaring 257 1) → ⊥
  pub attributes_65 : IsSound (declaring 1 65) → ⊥
  pub short_make : IsSound (record { classes = record { name = 1; attrs = 2 ∷ [] } ∷ []; rules = []; makes = (0, []) ∷ [] }) → ⊥
