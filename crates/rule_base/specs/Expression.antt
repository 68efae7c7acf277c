-- The expressions of `compute` as plain trees, which definitions can compute with.
use Rattle.std.specs.Prelude.{ℕ, ◌+◌, max, ℤ, List, [], ◌∷◌}
use Rattle.rule_base.specs.declared.expression.Op.{Op}
use Rattle.rule_base.specs.declared.expression.Expr.{Expr, fold-Expr}
use Rattle.rule_base.specs.declared.expression.Operand.TheOpen as open'

mutual
  -- an operand alone, or an operand, an operator and the rest, which is an expression again
  pub data Tree : Type 0 where
    single : Leaf → Tree
    joined : Leaf → Op → Tree → Tree

  -- a number, a variable by its number, or an expression in parentheses
  pub data Leaf : Type 0 where
    number : ℤ → Leaf
    variable : ℕ → Leaf
    parentheses : Tree → Leaf

-- an operand followed by these operators with their operands
abbrev pub chained : Leaf → List (Op × Leaf) → Tree
chained first [] = single first
chained first (next ∷ rest) = joined first next.0 (chained next.1 rest)

-- an operand as a leaf, where expressions inside it are trees already
abbrev pub leaf_of : open'.Operand-F Leaf Tree → Leaf
leaf_of (open'.Num z) = number z
leaf_of (open'.Var n) = variable n
leaf_of (open'.Paren inner) = parentheses inner

-- the expression of a program as a tree
abbrev pub tree_of : Expr → Tree
tree_of = fold-Expr Leaf Tree leaf_of (λ (e : open'.Expr-F Leaf Tree). chained e.first e.rest)

-- how deep parentheses stand in one another
abbrev mutual
  pub depth : Tree → ℕ
  depth (single operand) = leaf_depth operand
  depth (joined operand op rest) = max (leaf_depth operand) (depth rest)

  pub leaf_depth : Leaf → ℕ
  leaf_depth (number z) = 0
  leaf_depth (variable n) = 0
  leaf_depth (parentheses inner) = depth inner + 1
