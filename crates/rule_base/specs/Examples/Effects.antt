-- What right-hand sides do, and which action fails first and why. An expression is told by its tree.
use Rattle.std.specs.Prelude.{◌≡◌, ◌-◌, ◌^◌, Some, List, [], ◌∷◌, Bool, true, false, ℤ, pos, negsuc, Ok, Err}
use Rattle.rule_base.specs.declared.value.Value.TheVariants.{Int, Sym}
use Rattle.rule_base.specs.declared.element.Element.{Element}
use Rattle.rule_base.specs.declared.condition.Test.TheVariants.{Bind}
use Rattle.rule_base.specs.declared.action.Term.TheVariants.{Con, Var, Compute}
use Rattle.rule_base.specs.declared.action.Item.TheVariants as item
use Rattle.rule_base.specs.declared.action.Action.{Action}
use Rattle.rule_base.specs.declared.action.Action.TheVariants as action
use Rattle.rule_base.specs.declared.change.Change.{Change}
use Rattle.rule_base.specs.declared.change.Change.TheVariants.{Remove, Make}
use Rattle.rule_base.specs.declared.change.Piece.{Piece}
use Rattle.rule_base.specs.declared.change.Piece.TheVariants.{Put, Crlf, Tabto, Rjust}
use Rattle.rule_base.specs.declared.expression.Op.TheVariants.{Add, Sub, Mul, Div, Rem}
use Rattle.rule_base.specs.declared.expression.Expr.{Expr, roll-Expr}
use Rattle.rule_base.specs.declared.expression.Operand.{roll-Operand}
use Rattle.rule_base.specs.declared.expression.Operand.TheOpen as open'
use Rattle.rule_base.specs.declared.entry.FaultCause.TheVariants.{DivideByZero, Overflow, NotANumber, Gone}
use Rattle.rule_base.specs.declared.program.Rule.{Rule}
use Rattle.rule_base.specs.Expression.{Tree, single, joined, number, variable, parentheses, chained, tree_of}
use Rattle.rule_base.specs.Compute.{computed}
use Rattle.rule_base.specs.Effect.{Failure, effect}
use Rattle.rule_base.specs.Examples.Programs.{int, element, present, absent, plain_rule, find_block_rule}

-- the greatest and the least integer
abbrev pub greatest : ℤ
greatest = pos (2 ^ 63 - 1)

abbrev pub least : ℤ
least = negsuc (2 ^ 63 - 1)

-- what expressions give where no variable has a value
pub record AreComputed : Type 0 where
  -- 2 * 3 + 4 and 10 - 4 - 3
  pub no_precedence : computed (joined (number (pos 2)) Mul (joined (number (pos 3)) Add (single (number (pos 4))))) [] ≡ Ok (pos 14)
  pub from_right_to_left : computed (joined (number (pos 10)) Sub (joined (number (pos 4)) Sub (single (number (pos 3))))) [] ≡ Ok (pos 9)
  -- (10 - 4) - 3
  pub parentheses_first : computed (joined (parentheses (joined (number (pos 10)) Sub (single (number (pos 4))))) Sub (single (number (pos 3)))) [] ≡ Ok (pos 3)
  -- -7 // 2, 7 // -2, -7 \\ 2, 7 \\ -2
  pub towards_zero : computed (joined (number (negsuc 6)) Div (single (number (pos 2)))) [] ≡ Ok (negsuc 2)
  pub towards_zero_too : computed (joined (number (pos 7)) Div (single (number (negsuc 1)))) [] ≡ Ok (negsuc 2)
  pub sign_of_dividend : computed (joined (number (negsuc 6)) Rem (single (number (pos 2)))) [] ≡ Ok (negsuc 0)
  pub sign_of_dividend_too : computed (joined (number (pos 7)) Rem (single (number (negsuc 1)))) [] ≡ Ok (pos 1)
  pub zero_divisor : computed (joined (number (pos 1)) Div (single (number (pos 0)))) [] ≡ Err DivideByZero
  pub zero_modulus : computed (joined (number (pos 1)) Rem (single (number (pos 0)))) [] ≡ Err DivideByZero
  pub past_greatest : computed (joined (number greatest) Add (single (number (pos 1)))) [] ≡ Err Overflow
  pub at_greatest : computed (joined (number greatest) Sub (single (number (pos 0)))) [] ≡ Ok greatest
  pub past_least : computed (joined (number least) Sub (single (number (pos 1)))) [] ≡ Err Overflow
  pub least_by_minus_one : computed (joined (number least) Div (single (number (negsuc 0)))) [] ≡ Err Overflow
  pub both_negative : computed (joined (number (negsuc 6)) Div (single (number (negsuc 1)))) [] ≡ Ok (pos 3)
  pub both_negative_rest : computed (joined (number (negsuc 6)) Rem (single (number (negsuc 1)))) [] ≡ Ok (negsuc 0)
  pub at_least : computed (joined (number (negsuc (2 ^ 63 - 2))) Sub (single (number (pos 1)))) [] ≡ Ok least
  pub product_past_greatest : computed (joined (number greatest) Mul (single (number (pos 2)))) [] ≡ Err Overflow
  -- 0 - 9223372036854775807 + 1: a result on the way counts, too
  pub overflow_on_the_way : computed (joined (number (pos 0)) Sub (joined (number greatest) Add (single (number (pos 1))))) [] ≡ Err Overflow
  -- (1 // 0) + <v> and <v> // 0 with a symbol: the rest comes first, then the operand, then the operator
  pub rest_before_operand : computed (joined (parentheses (joined (number (pos 1)) Div (single (number (pos 0))))) Add (single (variable 0))) (Some (Sym 5) ∷ []) ≡ Err NotANumber
  pub operand_before_operator : computed (joined (variable 0) Div (single (number (pos 0)))) (Some (Sym 5) ∷ []) ≡ Err NotANumber
  pub remainder_of_least : computed (joined (number least) Rem (single (number (negsuc 0)))) [] ≡ Ok (pos 0)

-- the element that the rules below match, of class 0 with one value
abbrev pub one : List Element
one = element 1 0 (int 1 ∷ []) ∷ []

-- what a rule of one plain condition element does, where its actions don't fail
abbrev pub does : List Action → List Change → List Piece → Bool → Type 0
does actions changes pieces halts = effect (plain_rule actions) one ≡ Ok (record { changes = changes; pieces = pieces; halts = halts })

-- such a rule fails first at this action, for this cause
abbrev pub fails : List Action → Failure → Type 0
fails actions failure = effect (plain_rule actions) one ≡ Err failure

-- a rule whose two condition elements may match one element of class 0
abbrev pub twofold_rule : List Action → Rule
twofold_rule actions = record { name = 9; vars = 0; positives = 2; conds = present 0 [] ∷ present 0 [] ∷ []; actions = actions }

-- the element of `one`, twice
abbrev pub same_twice : List Element
same_twice = element 1 0 (int 1 ∷ []) ∷ element 1 0 (int 1 ∷ []) ∷ []

-- a rule that writes what it computes of the one value of its element
abbrev pub computing_rule : Expr → Rule
computing_rule e = record { name = 9; vars = 1; positives = 1; conds = present 0 (Bind 0 0 ∷ []) ∷ []; actions = action.Write (item.Put (Compute e) ∷ []) ∷ [] }

pub record AreEffects : Type 0 where
  -- (write (compute 2 * 3 + 4) (compute 10 - 4 - 3))
  pub computes : (e f : Expr) → tree_of e ≡ joined (number (pos 2)) Mul (joined (number (pos 3)) Add (single (number (pos 4))))
      → tree_of f ≡ joined (number (pos 10)) Sub (joined (number (pos 4)) Sub (single (number (pos 3))))
      → does (action.Write (item.Put (Compute e) ∷ item.Put (Compute f) ∷ []) ∷ []) [] (Put (int 14) ∷ Put (int 9) ∷ []) false
  -- (write a) (bind <q> (compute 1 // 0)): nothing of the failing firing is left
  pub divides_by_zero : (e : Expr) → tree_of e ≡ joined (number (pos 1)) Div (single (number (pos 0)))
      → fails (action.Write (item.Put (Con (Sym 1)) ∷ []) ∷ action.Bind 0 (Compute e) ∷ []) (record { action = 2; cause = DivideByZero })
  -- (write (compute 9223372036854775807 + 1)), and with - 0
  pub overflows : (e : Expr) → tree_of e ≡ joined (number greatest) Add (single (number (pos 1)))
      → fails (action.Write (item.Put (Compute e) ∷ []) ∷ []) (record { action = 1; cause = Overflow })
  pub fits : (e : Expr) → tree_of e ≡ joined (number greatest) Sub (single (number (pos 0)))
      → does (action.Write (item.Put (Compute e) ∷ []) ∷ []) [] (Put (Int greatest) ∷ []) false
  -- (compute <v>) of a symbol
  pub not_a_number : (e : Expr) → tree_of e ≡ single (variable 0)
      → effect (computing_rule e) (element 1 0 (Sym 5 ∷ []) ∷ []) ≡ Err (record { action = 1; cause = NotANumber })
  -- (compute <v> + (1 // 0)) of a symbol: the rest comes before the operand
  pub rest_first : (e : Expr) → tree_of e ≡ joined (variable 0) Add (single (parentheses (joined (number (pos 1)) Div (single (number (pos 0))))))
      → effect (computing_rule e) (element 1 0 (Sym 5 ∷ []) ∷ []) ≡ Err (record { action = 1; cause = DivideByZero })
  -- (modify 1 ^x 2) (modify 2 ^x 3) of one element
  pub modified_twice : effect (twofold_rule (action.Modify 0 ((0, Con (int 2)) ∷ []) ∷ action.Modify 1 ((0, Con (int 3)) ∷ []) ∷ [])) same_twice
      ≡ Err (record { action = 2; cause = Gone })
  -- an element that is gone counts before its settings are evaluated
  pub gone_first : (e : Expr) → tree_of e ≡ joined (number (pos 1)) Div (single (number (pos 0)))
      → effect (twofold_rule (action.Remove (0 ∷ []) ∷ action.Modify 1 ((0, Compute e) ∷ []) ∷ [])) same_twice ≡ Err (record { action = 2; cause = Gone })
  -- (remove 1) (remove 2) of one element, and (remove 1 2)
  pub removed_twice : effect (twofold_rule (action.Remove (0 ∷ []) ∷ action.Remove (1 ∷ []) ∷ [])) same_twice
      ≡ Ok (record { changes = Remove 1 ∷ []; pieces = []; halts = false })
  pub removed_together : effect (twofold_rule (action.Remove (0 ∷ 1 ∷ []) ∷ [])) same_twice
      ≡ Ok (record { changes = Remove 1 ∷ []; pieces = []; halts = false })
  -- (halt) (write z): actions after a halt are still done
  pub halts_and_writes : does (action.Halt ∷ action.Write (item.Put (Con (Sym 7)) ∷ []) ∷ []) [] (Put (Sym 7) ∷ []) true
  -- (make a ^x 1 ^x 2): the last setting stands, and an attribute that isn't given is nil
  pub last_setting_stands : does (action.Make 0 2 ((1, Con (int 1)) ∷ (1, Con (int 2)) ∷ []) ∷ []) (Make 0 (Sym 0 ∷ int 2 ∷ []) ∷ []) [] false
  -- (bind <q> 3) (make a ^x <q>)
  pub bound_by_action : does (action.Bind 0 (Con (int 3)) ∷ action.Make 0 1 ((0, Var 0) ∷ []) ∷ []) (Make 0 (int 3 ∷ []) ∷ []) [] false
  -- (write <v>) (bind <v> 5) (write <v>)
  pub bound_anew : effect (record { name = 9; vars = 1; positives = 1; conds = present 0 (Bind 0 0 ∷ []) ∷ []; actions = action.Write (item.Put (Var 0) ∷ []) ∷ action.Bind 0 (Con (int 5)) ∷ action.Write (item.Put (Var 0) ∷ []) ∷ [] }) (element 1 0 (int 8 ∷ []) ∷ [])
      ≡ Ok (record { changes = []; pieces = Put (int 8) ∷ Put (int 5) ∷ []; halts = false })
  -- (a) -(b) (c ^x <v>) --> (write <v>) (remove 2): designators count positive condition elements alone
  pub passes_over_negated : effect (record { name = 9; vars = 1; positives = 2; conds = present 0 [] ∷ absent 1 [] ∷ present 2 (Bind 0 0 ∷ []) ∷ []; actions = action.Write (item.Put (Var 0) ∷ []) ∷ action.Remove (1 ∷ []) ∷ [] }) (element 1 0 [] ∷ element 5 2 (int 8 ∷ []) ∷ [])
      ≡ Ok (record { changes = Remove 5 ∷ []; pieces = Put (int 8) ∷ []; halts = false })
  -- of two failing actions the first is named
  pub first_failure : (e f : Expr) → tree_of e ≡ joined (number greatest) Add (single (number (pos 1))) → tree_of f ≡ joined (number (pos 1)) Div (single (number (pos 0)))
      → fails (action.Bind 0 (Compute e) ∷ action.Bind 0 (Compute f) ∷ []) (record { action = 1; cause = Overflow })
  -- of two failing settings the first decides
  pub first_setting : (e f : Expr) → tree_of e ≡ joined (number greatest) Add (single (number (pos 1))) → tree_of f ≡ joined (number (pos 1)) Div (single (number (pos 0)))
      → fails (action.Make 0 2 ((1, Compute e) ∷ (0, Compute f) ∷ []) ∷ []) (record { action = 1; cause = Overflow })
  -- a remove after a modify does nothing
  pub removed_after_modify : effect (twofold_rule (action.Modify 0 ((0, Con (int 2)) ∷ []) ∷ action.Remove (1 ∷ []) ∷ [])) same_twice
      ≡ Ok (record { changes = Remove 1 ∷ Make 0 (int 2 ∷ []) ∷ []; pieces = []; halts = false })
  -- a modify keeps the class and the other values
  pub modify_keeps : effect (record { name = 9; vars = 0; positives = 1; conds = present 3 [] ∷ []; actions = action.Modify 0 ((1, Con (int 2)) ∷ (1, Con (int 3)) ∷ []) ∷ [] }) (element 4 3 (int 8 ∷ int 9 ∷ []) ∷ [])
      ≡ Ok (record { changes = Remove 4 ∷ Make 3 (int 8 ∷ int 3 ∷ []) ∷ []; pieces = []; halts = false })
  pub makes_in_order : does (action.Make 0 1 ((0, Con (int 1)) ∷ []) ∷ action.Make 1 1 ((0, Con (int 2)) ∷ []) ∷ []) (Make 0 (int 1 ∷ []) ∷ Make 1 (int 2 ∷ []) ∷ []) [] false
  pub layout_words : does (action.Write (item.Tabto 6 ∷ item.Rjust 4 ∷ item.Crlf ∷ []) ∷ []) [] (Tabto 6 ∷ Rjust 4 ∷ Crlf ∷ []) false
  -- the goal is satisfied, and the block's name written
  pub finds_a_block : effect find_block_rule (element 1 0 (Sym 8 ∷ Sym 9 ∷ Sym 6 ∷ Sym 10 ∷ []) ∷ element 3 1 (Sym 13 ∷ Sym 10 ∷ []) ∷ [])
      ≡ Ok (record { changes = Remove 1 ∷ Make 0 (Sym 8 ∷ Sym 15 ∷ Sym 6 ∷ Sym 10 ∷ []) ∷ []; pieces = Put (Sym 16) ∷ Put (Sym 13) ∷ Crlf ∷ []; halts = false })

-- the trees of expressions as a reader builds them: operators stand with the operands behind them
pub record AreTrees : Type 0 where
  -- 10 - 4 - 3
  pub as_read : chained (number (pos 10)) ((Sub, number (pos 4)) ∷ (Sub, number (pos 3)) ∷ []) ≡ joined (number (pos 10)) Sub (joined (number (pos 4)) Sub (single (number (pos 3))))
  -- 10 - 4, as a value of the program
  pub as_built : tree_of (roll-Expr (record { first = roll-Operand (open'.Num (pos 10)); rest = (Sub, roll-Operand (open'.Num (pos 4))) ∷ [] })) ≡ joined (number (pos 10)) Sub (single (number (pos 4)))

-- every tree is that of an expression, so that the rows speak of something
abbrev pub EachTreeIsWritten : Type 0
EachTreeIsWritten = (t : Tree) → (e : Expr) × (tree_of e ≡ t)
