-- Rules of one condition element or one action, with their forms.
use Rattle.std.specs.Prelude.{ℕ, ℤ, pos, negsuc, true, false, List, [], ◌∷◌, ◌++◌, Some, None, codes}
use Rattle.ops_text.specs.Names.{Names}
use Rattle.rule_base.specs.declared.value.Value.TheVariants.{Int, Sym}
use Rattle.rule_base.specs.declared.condition.Pred.TheVariants.{Ne, Gt, Le}
use Rattle.rule_base.specs.declared.expression.Op.{Op}
use Rattle.rule_base.specs.declared.expression.Op.TheVariants.{Add, Sub, Div}
use Rattle.ops_reader.specs.declared.form.Form.TheVariants.{P}
use Rattle.ops_reader.specs.declared.form.FormCond.{FormCond}
use Rattle.ops_reader.specs.declared.form.Simple.{Simple}
use Rattle.ops_reader.specs.declared.form.Simple.TheVariants.{Plain, Cmp, OneOf}
use Rattle.ops_reader.specs.declared.form.FormArg.TheVariants.{Con, Name}
use Rattle.ops_reader.specs.declared.form.FormAction.{FormAction}
use Rattle.ops_reader.specs.declared.form.FormAction.TheVariants as an_action
use Rattle.ops_reader.specs.declared.form.At.TheVariants as a_place
use Rattle.ops_reader.specs.declared.form.FormTerm.TheVariants as a_term
use Rattle.ops_reader.specs.declared.form.FormItem.TheVariants.{Put, Crlf, Tabto, Rjust}
use Rattle.ops_reader.specs.declared.form.FormExpr.{FormExpr, roll-FormExpr}
use Rattle.ops_reader.specs.declared.form.FormOperand.{FormOperand, roll-FormOperand}
use Rattle.ops_reader.specs.declared.form.FormOperand.TheOpen as an_operand
use Rattle.ops_reader.specs.FormRows.{IsRead}

-- the text is this condition element of a rule `r`
abbrev pub IsCondition : List ℕ → FormCond → Names → Type 0
IsCondition text cond names = IsRead (codes "(p r " ++ text ++ codes " -->)") (P 1 (cond ∷ []) [] ∷ []) (codes "r" ∷ names)

-- the text is what an attribute `x` of a class `a` is tested by
abbrev pub IsTest : List ℕ → List Simple → Names → Type 0
IsTest text tests names =
    IsCondition (codes "(a ^x " ++ text ++ codes ")") (record { negated = false; named = None; class = 2; tests = (3, tests) ∷ [] }) (codes "a" ∷ codes "x" ∷ names)

pub record AreConditionRows : Type 0 where
  pub negated : IsCondition (codes "-(a)") (record { negated = true; named = None; class = 2; tests = [] }) (codes "a" ∷ [])
  pub named_before : IsCondition (codes "{ <e> (a) }") (record { negated = false; named = Some 2; class = 3; tests = [] }) (codes "e" ∷ codes "a" ∷ [])
  pub named_behind : IsCondition (codes "{ (a) <e> }") (record { negated = false; named = Some 3; class = 2; tests = [] }) (codes "a" ∷ codes "e" ∷ [])
  pub predicate : IsTest (codes "> 5") (Cmp Gt (Con (Int (pos 5))) ∷ []) []
  pub predicate_and_variable : IsTest (codes "<> <v>") (Cmp Ne (Name 4) ∷ []) (codes "v" ∷ [])
  -- `=` is the plain test
  pub equal : IsTest (codes "= <v>") (Plain (Name 4) ∷ []) (codes "v" ∷ [])
  pub several : IsTest (codes "{ > 1 <= 5 = 3 }") (Cmp Gt (Con (Int (pos 1))) ∷ Cmp Le (Con (Int (pos 5))) ∷ Plain (Con (Int (pos 3))) ∷ []) []
  pub one_in_braces : IsTest (codes "{ 5 }") (Plain (Con (Int (pos 5))) ∷ []) []
  pub none_in_braces : IsTest (codes "{ }") [] []
  pub one_of_some : IsTest (codes "<< b 1 x >>") (OneOf (Sym 4 ∷ Int (pos 1) ∷ Sym 3 ∷ []) ∷ []) (codes "b" ∷ [])
  pub one_of_none : IsTest (codes "<< >>") (OneOf [] ∷ []) []
  -- a minus by itself is a symbol, and before digits it is a sign
  pub minus : IsTest (codes "<< - 5 -5 >>") (OneOf (Sym 4 ∷ Int (pos 5) ∷ Int (negsuc 4) ∷ []) ∷ []) (codes "-" ∷ [])

-- the text is this action of a rule `r` with a condition on a class `a`
abbrev pub IsAction : List ℕ → FormAction → Names → Type 0
IsAction text action names =
    IsRead (codes "(p r (a) --> " ++ text ++ codes ")") (P 1 (record { negated = false; named = None; class = 2; tests = [] } ∷ []) (action ∷ []) ∷ []) (codes "r" ∷ codes "a" ∷ names)

-- an operand, and any further ones behind operators, as an expression
abbrev pub expression_of : FormOperand → List (Op × FormOperand) → FormExpr
expression_of first rest = roll-FormExpr (record { first = first; rest = rest })

-- an integer as an operand
abbrev pub integer : ℤ → FormOperand
integer z = roll-FormOperand (an_operand.Num z)

-- an expression in parentheses as an operand
abbrev pub enclosed : FormExpr → FormOperand
enclosed e = roll-FormOperand (an_operand.Paren e)

pub record AreActionRows : Type 0 where
  pub make : IsAction (codes "(make a ^x <v> ^y >>)")
      (an_action.Make 2 ((3, a_term.Name 4) ∷ (5, a_term.Con (Sym 6)) ∷ []))
      (codes "x" ∷ codes "v" ∷ codes "y" ∷ codes ">>" ∷ [])
  pub modify : IsAction (codes "(modify 1 ^x 2)") (an_action.Modify (a_place.Number (pos 1)) ((3, a_term.Con (Int (pos 2))) ∷ [])) (codes "x" ∷ [])
  pub modify_by_name : IsAction (codes "(modify <e>)") (an_action.Modify (a_place.Name 3) []) (codes "e" ∷ [])
  pub remove : IsAction (codes "(remove <e> 2)") (an_action.Remove (a_place.Name 3 ∷ a_place.Number (pos 2) ∷ [])) (codes "e" ∷ [])
  pub bind : IsAction (codes "(bind <v> a)") (an_action.Bind 3 (a_term.Con (Sym 2))) (codes "v" ∷ [])
  pub compute : IsAction (codes "(bind <v> (compute 1 + (2 // 3) - 4))")
      (an_action.Bind 3 (a_term.Compute (expression_of (integer (pos 1))
      ((Add, enclosed (expression_of (integer (pos 2)) ((Div, integer (pos 3)) ∷ []))) ∷ (Sub, integer (pos 4)) ∷ []))))
      (codes "v" ∷ [])
  pub write : IsAction (codes "(write a (crlf) (tabto 255) (rjust 0) <v>)")
      (an_action.Write (Put (a_term.Con (Sym 2)) ∷ Crlf ∷ Tabto 255 ∷ Rjust 0 ∷ Put (a_term.Name 3) ∷ []))
      (codes "v" ∷ [])
  pub halt : IsAction (codes "(halt)") an_action.Halt []
