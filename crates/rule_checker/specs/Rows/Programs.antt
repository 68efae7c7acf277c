-- What programs are checked to.
use Rattle.std.specs.Prelude.{◌≡◌, ℕ, List, [], ◌∷◌, true, false, Some, pos, Ok}
use Rattle.rule_base.specs.declared.value.Value.TheVariants.{Int, Sym}
use Rattle.rule_base.specs.declared.condition.Pred.TheVariants.{Eq, Gt}
use Rattle.rule_base.specs.declared.condition.Arg.TheVariants as arg
use Rattle.rule_base.specs.declared.condition.Test.TheVariants as test
use Rattle.rule_base.specs.declared.condition.Cond.{Cond}
use Rattle.rule_base.specs.declared.action.Term.TheVariants as term
use Rattle.rule_base.specs.declared.action.Item.TheVariants as item
use Rattle.rule_base.specs.declared.action.Action.{Action}
use Rattle.rule_base.specs.declared.action.Action.TheVariants as action
use Rattle.rule_base.specs.declared.program.Program.{Program}
use Rattle.ops_reader.specs.declared.form.FormArg.TheVariants as written
use Rattle.ops_reader.specs.declared.form.Simple.TheVariants as simple
use Rattle.ops_reader.specs.declared.form.FormTerm.TheVariants as form_term
use Rattle.ops_reader.specs.declared.form.FormAction.TheVariants as form_action
use Rattle.ops_reader.specs.declared.form.Form.TheVariants as form
use Rattle.rule_checker.specs.Checked.{checked}
use Rattle.rule_checker.specs.Rows.Written.{declare_a, declare_b, uses, positive, negated, named_e, rule_r, write, bind, remove, modify_e}

-- the program of the classes a and b and one rule r
abbrev pub program_of : ℕ → ℕ → List Cond → List Action → Program
program_of vars positives conds actions = record {
  classes = record { name = 1; attrs = 2 ∷ [] } ∷ record { name = 6; attrs = 7 ∷ [] } ∷ [];
  rules = record { name = 3; vars = vars; positives = positives; conds = conds; actions = actions } ∷ [];
  makes = [];
}

pub record ArePrograms : Type 0 where
  -- (p r (a ^x <v>) (b ^y <v>) --> (remove 2) (write <v>)): the first use binds, the second compares
  pub first_use_binds : checked (declare_a ∷ declare_b ∷ rule_r (positive 1 (uses 2 4 ∷ []) ∷ positive 6 (uses 7 4 ∷ []) ∷ []) (remove 2 ∷ write 4 ∷ []) ∷ [])
      ≡ Ok (program_of 1 2 (record { negated = false; class = 0; tests = test.Bind 0 0 ∷ [] } ∷ record { negated = false; class = 1; tests = test.Cmp 0 Eq (arg.Var 0) ∷ [] } ∷ []) (action.Remove (1 ∷ []) ∷ action.Write (item.Put (term.Var 0) ∷ []) ∷ []))
  -- (p r (a) -(b ^y <v>) (a ^x <v>) --> ): the negated one keeps its variable to itself
  pub negated_is_local : checked (declare_a ∷ declare_b ∷ rule_r (positive 1 [] ∷ negated 6 (uses 7 4 ∷ []) ∷ positive 1 (uses 2 4 ∷ []) ∷ []) [] ∷ [])
      ≡ Ok (program_of 2 2 (record { negated = false; class = 0; tests = [] } ∷ record { negated = true; class = 1; tests = test.Bind 0 0 ∷ [] } ∷ record { negated = false; class = 0; tests = test.Bind 0 1 ∷ [] } ∷ []) [])
  -- (p r (a ^x <v>) -(b ^y > <v>) --> ): the negated one sees what is bound to its left
  pub negated_sees_its_left : checked (declare_a ∷ declare_b ∷ rule_r (positive 1 (uses 2 4 ∷ []) ∷ negated 6 ((7, simple.Cmp Gt (written.Name 4) ∷ []) ∷ []) ∷ []) [] ∷ [])
      ≡ Ok (program_of 1 1 (record { negated = false; class = 0; tests = test.Bind 0 0 ∷ [] } ∷ record { negated = true; class = 1; tests = test.Cmp 0 Gt (arg.Var 0) ∷ [] } ∷ []) [])
  -- (p r (a ^x <v>) --> (bind <v> <v>) (bind <w> 1) (write <w>)): a bound variable keeps its number, a new one gets the next
  pub binds : checked (declare_a ∷ declare_b ∷ rule_r (positive 1 (uses 2 4 ∷ []) ∷ []) (bind 4 (form_term.Name 4) ∷ bind 8 (form_term.Con (Int (pos 1))) ∷ write 8 ∷ []) ∷ [])
      ≡ Ok (program_of 2 1 (record { negated = false; class = 0; tests = test.Bind 0 0 ∷ [] } ∷ []) (action.Bind 0 (term.Var 0) ∷ action.Bind 1 (term.Con (Int (pos 1))) ∷ action.Write (item.Put (term.Var 1) ∷ []) ∷ []))
  -- (p r (a) -(b) { <e> (b) } --> (modify <e> ^y 1)): a designator counts the positive ones, and an attribute is the class's
  pub designates : checked (declare_a ∷ declare_b ∷ rule_r (positive 1 [] ∷ negated 6 [] ∷ named_e 6 ∷ []) (modify_e 7 ∷ []) ∷ [])
      ≡ Ok (program_of 0 2 (record { negated = false; class = 0; tests = [] } ∷ record { negated = true; class = 1; tests = [] } ∷ record { negated = false; class = 1; tests = [] } ∷ []) (action.Modify 1 ((0, term.Con (Int (pos 1))) ∷ []) ∷ []))
  -- (p r { <e> (a ^x <e>) } --> (write <e>)): value variables and element variables are two sets of names
  pub two_sets_of_names : checked (declare_a ∷ declare_b ∷ rule_r (record { negated = false; named = Some 5; class = 1; tests = uses 2 5 ∷ [] } ∷ []) (write 5 ∷ []) ∷ [])
      ≡ Ok (program_of 1 1 (record { negated = false; class = 0; tests = test.Bind 0 0 ∷ [] } ∷ []) (action.Write (item.Put (term.Var 0) ∷ []) ∷ []))
  -- (p r (a) --> (make b)): a make says how many attributes its class has
  pub makes : checked (declare_a ∷ declare_b ∷ rule_r (positive 1 [] ∷ []) (form_action.Make 6 [] ∷ []) ∷ [])
      ≡ Ok (program_of 0 1 (record { negated = false; class = 0; tests = [] } ∷ []) (action.Make 1 1 [] ∷ []))
  -- (strategy mea)(literalize a x)(make a ^x 2 ^x 1)(make a): the last setting stands, and what isn't set is nil
  pub opening : checked (form.Strategy true ∷ declare_a ∷ form.Make 1 ((2, Int (pos 2)) ∷ (2, Int (pos 1)) ∷ []) ∷ form.Make 1 [] ∷ [])
      ≡ Ok (record { classes = record { name = 1; attrs = 2 ∷ [] } ∷ []; rules = []; makes = (0, Int (pos 1) ∷ []) ∷ (0, Sym 0 ∷ []) ∷ [] })
