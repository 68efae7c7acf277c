-- Every tree is that of an expression of a program, which is built here part by part.
use Rattle.std.proofs.Common.{◌≡◌, List, [], ◌∷◌, pos, map, ap, ◌∙◌, refl}
use Rattle.rule_base.specs.declared.expression.Op.{Op}
use Rattle.rule_base.specs.declared.expression.Op.TheVariants.{Sub}
use Rattle.rule_base.specs.declared.expression.Operand.{Operand, roll-Operand}
use Rattle.rule_base.specs.declared.expression.Expr.{Expr, roll-Expr}
use Rattle.rule_base.specs.declared.expression.Operand.TheOpen as open'
use Rattle.rule_base.specs.declared.expression.Operand.TheShapes.{former-Expr-rest-at-2}
use Rattle.rule_base.specs.declared.expression.Operand.TheFolds.{fold-Operand, fold-roll-Operand, fold-roll-Expr}
use Rattle.rule_base.specs.Expression.{Tree, single, joined, Leaf, number, variable, parentheses, chained, leaf_of, tree_of}

-- an expression from its first operand and the operators with theirs
made : Operand × List (Op × Operand) → Expr
made parts = roll-Expr (record { first = parts.0; rest = parts.1 })

abbrev mutual
  -- the first operand of a tree, and the operators with theirs
  parts_of : Tree → Operand × List (Op × Operand)
  parts_of (single operand) = (operand_of operand, [])
  parts_of (joined operand op rest) = (operand_of operand, (op, (parts_of rest).0) ∷ (parts_of rest).1)

  operand_of : Leaf → Operand
  operand_of (number z) = roll-Operand (open'.Num z)
  operand_of (variable n) = roll-Operand (open'.Var n)
  operand_of (parentheses inner) = roll-Operand (open'.Paren (made (parts_of inner)))

-- the leaf that an operand of a program is
abbrev leaf : Operand → Leaf
leaf = fold-Operand Leaf Tree leaf_of (λ (e : open'.Expr-F Leaf Tree). chained e.first e.rest)

-- operators with their operands as leaves
abbrev leaves : List (Op × Operand) → List (Op × Leaf)
leaves [] = []
leaves (next ∷ rest) = (next.0, leaf next.1) ∷ leaves rest

leaves-mapped : (rest : List (Op × Operand)) → map ((former-Expr-rest-at-2).map Operand Leaf leaf) rest ≡ leaves rest
leaves-mapped [] = refl
leaves-mapped (next ∷ rest) = ap (λ more. (next.0, leaf next.1) ∷ more) (leaves-mapped rest)

tree_of-made : (parts : Operand × List (Op × Operand)) → tree_of (made parts) ≡ chained (leaf parts.0) (leaves parts.1)
unfolding made
tree_of-made parts = fold-roll-Expr Leaf Tree leaf_of (λ (e : open'.Expr-F Leaf Tree). chained e.first e.rest) (record { first = parts.0; rest = parts.1 }) ∙ ap (chained (leaf parts.0)) (leaves-mapped parts.1)

mutual
  chained-parts_of : (t : Tree) → chained (leaf (parts_of t).0) (leaves (parts_of t).1) ≡ t
  chained-parts_of (single operand) = ap single (leaf-operand_of operand)
  chained-parts_of (joined operand op rest) = ap (λ first. joined first op (chained (leaf (parts_of rest).0) (leaves (parts_of rest).1))) (leaf-operand_of operand) ∙ ap (joined operand op) (chained-parts_of rest)

  leaf-operand_of : (operand : Leaf) → leaf (operand_of operand) ≡ operand
  leaf-operand_of (number z) = fold-roll-Operand Leaf Tree leaf_of (λ (e : open'.Expr-F Leaf Tree). chained e.first e.rest) (open'.Num z)
  leaf-operand_of (variable n) = fold-roll-Operand Leaf Tree leaf_of (λ (e : open'.Expr-F Leaf Tree). chained e.first e.rest) (open'.Var n)
  leaf-operand_of (parentheses inner) = fold-roll-Operand Leaf Tree leaf_of (λ (e : open'.Expr-F Leaf Tree). chained e.first e.rest) (open'.Paren (made (parts_of inner))) ∙ ap parentheses (tree_of-made (parts_of inner) ∙ chained-parts_of inner)

-- every tree is that of an expression
pub is_written : (t : Tree) → (e : Expr) × (tree_of e ≡ t)
is_written t = (made (parts_of t), tree_of-made (parts_of t) ∙ chained-parts_of t)

-- 10 - 4 as a value of the program
pub ten_less_four : tree_of (roll-Expr (record { first = roll-Operand (open'.Num (pos 10)); rest = (Sub, roll-Operand (open'.Num (pos 4))) ∷ [] })) ≡ joined (number (pos 10)) Sub (single (number (pos 4)))
unfolding made
ten_less_four =
    tree_of-made (roll-Operand (open'.Num (pos 10)), (Sub, roll-Operand (open'.Num (pos 4))) ∷ [])
    ∙ ap (λ first. joined first Sub (single (leaf (roll-Operand (open'.Num (pos 4)))))) (leaf-operand_of (number (pos 10)))
    ∙ ap (λ second. joined (number (pos 10)) Sub (single second)) (leaf-operand_of (number (pos 4)))
