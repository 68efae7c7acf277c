-- How the tree of an expression of a form is made of its operands, and that it determines the expression.
use Rattle.std.proofs.Common.{◌≡◌, List, [], ◌∷◌, ◌++◌, map, refl, sym, ap, ◌∙◌, subst}
use Rattle.rule_base.specs.declared.expression.Op.{Op}
use Rattle.rule_base.specs.Expression.{Tree, single, joined, Leaf, number, variable, parentheses, chained}
use Rattle.ops_reader.specs.declared.form.FormExpr.{FormExpr, roll-FormExpr}
use Rattle.ops_reader.specs.declared.form.FormOperand.{FormOperand, roll-FormOperand}
use Rattle.ops_reader.specs.declared.form.FormOperand.TheOpen as open'
use Rattle.ops_reader.specs.declared.form.FormOperand.TheShapes.{former-FormExpr-rest-at-2}
use Rattle.ops_reader.specs.declared.form.FormOperand.TheFolds.{fold-roll-FormOperand, fold_out-FormExpr, map-FormOperand, map-FormExpr, ind-FormExpr}
use Rattle.ops_reader.specs.declared.part.Before.TheVariants as of_before
use Rattle.ops_reader.specs.FormTree.{form_leaf, form_tree, operand_leaf}
use Rattle.ops_reader.specs.ExpressionReading.{with_operand, in_parentheses}

-- operators with their operands as leaves
abbrev pub leaves : List (Op × FormOperand) → List (Op × Leaf)
leaves [] = []
leaves (next ∷ rest) = (next.0, operand_leaf next.1) ∷ leaves rest

leaves-mapped : (rest : List (Op × FormOperand)) → map ((former-FormExpr-rest-at-2).map FormOperand Leaf operand_leaf) rest ≡ leaves rest
leaves-mapped [] = refl
leaves-mapped (next ∷ rest) = ap (λ more. (next.0, operand_leaf next.1) ∷ more) (leaves-mapped rest)

-- the tree of an expression is that of its operands
pub form_tree-out : (e : FormExpr) → form_tree e ≡ chained (operand_leaf e.first) (leaves e.rest)
form_tree-out e = fold_out-FormExpr Leaf Tree form_leaf (λ (x : open'.FormExpr-F Leaf Tree). chained x.first x.rest) e ∙ ap (chained (operand_leaf e.first)) (leaves-mapped e.rest)

form_tree-roll : (first : FormOperand) (rest : List (Op × FormOperand)) → form_tree (roll-FormExpr (record { first = first; rest = rest })) ≡ chained (operand_leaf first) (leaves rest)
form_tree-roll first rest = form_tree-out (roll-FormExpr (record { first = first; rest = rest }))

pub leaf-Num : (z : _) → operand_leaf (roll-FormOperand (open'.Num z)) ≡ number z
leaf-Num z = fold-roll-FormOperand Leaf Tree form_leaf (λ (x : open'.FormExpr-F Leaf Tree). chained x.first x.rest) (open'.Num z)

pub leaf-Name : (n : _) → operand_leaf (roll-FormOperand (open'.Name n)) ≡ variable n
leaf-Name n = fold-roll-FormOperand Leaf Tree form_leaf (λ (x : open'.FormExpr-F Leaf Tree). chained x.first x.rest) (open'.Name n)

pub leaf-in_parentheses : (e : FormExpr) → operand_leaf (in_parentheses e) ≡ parentheses (form_tree e)
leaf-in_parentheses e = fold-roll-FormOperand Leaf Tree form_leaf (λ (x : open'.FormExpr-F Leaf Tree). chained x.first x.rest) (open'.Paren e)

pub leaves-push : (rest : List (Op × FormOperand)) (op : Op) (operand : FormOperand) → leaves (rest ++ (op, operand) ∷ []) ≡ leaves rest ++ (op, operand_leaf operand) ∷ []
leaves-push [] op operand = refl
leaves-push (next ∷ rest) op operand = ap (λ more. (next.0, operand_leaf next.1) ∷ more) (leaves-push rest op operand)

-- the tree of an operand alone
pub form_tree-alone : (operand : FormOperand) → form_tree (with_operand of_before.Nothing operand) ≡ single (operand_leaf operand)
form_tree-alone operand = form_tree-roll operand []

-- the tree of an expression with one more operand
pub form_tree-with_operand : (e : FormExpr) (op : Op) (operand : FormOperand)
    → form_tree (with_operand (of_before.Operator e op) operand) ≡ chained (operand_leaf e.first) (leaves e.rest ++ (op, operand_leaf operand) ∷ [])
form_tree-with_operand e op operand =
    form_tree-roll e.first (e.rest ++ (op, operand) ∷ []) ∙ ap (chained (operand_leaf e.first)) (leaves-push e.rest op operand)

-- the first operand of a tree, and the operators with theirs
abbrev mutual
  pub parts_of : Tree → FormOperand × List (Op × FormOperand)
  parts_of (single l) = (operand_of l, [])
  parts_of (joined l op rest) = (operand_of l, (op, (parts_of rest).0) ∷ (parts_of rest).1)

  pub operand_of : Leaf → FormOperand
  operand_of (number z) = roll-FormOperand (open'.Num z)
  operand_of (variable n) = roll-FormOperand (open'.Name n)
  operand_of (parentheses inner) = in_parentheses (roll-FormExpr (record { first = (parts_of inner).0; rest = (parts_of inner).1 }))

-- the expression of a tree
abbrev pub written : Tree → FormExpr
written t = roll-FormExpr (record { first = (parts_of t).0; rest = (parts_of t).1 })

-- operators with their leaves as operands
abbrev operands : List (Op × Leaf) → List (Op × FormOperand)
operands [] = []
operands (next ∷ rest) = (next.0, operand_of next.1) ∷ operands rest

parts_of-chained : (first : Leaf) (rest : List (Op × Leaf)) → parts_of (chained first rest) ≡ (operand_of first, operands rest)
parts_of-chained first [] = refl
parts_of-chained first (next ∷ rest) = ap (λ (p : FormOperand × List (Op × FormOperand)). (operand_of first, (next.0, p.0) ∷ p.1)) (parts_of-chained next.1 rest)

-- the operand_leaf of the operand gives it back
abbrev IsBack : FormOperand → Type 0
IsBack o = operand_of (operand_leaf o) ≡ o

-- the tree of the expression gives it back
abbrev IsWritten : FormExpr → Type 0
IsWritten e = written (form_tree e) ≡ e

-- operators and operands without what is known of them
abbrev bare : List (Op × ((o : FormOperand) × IsBack o)) → List (Op × FormOperand)
bare [] = []
bare (next ∷ rest) = (next.0, next.1.0) ∷ bare rest

bare-mapped : (rest : List (Op × ((o : FormOperand) × IsBack o))) → map ((former-FormExpr-rest-at-2).map ((o : FormOperand) × IsBack o) FormOperand (λ o. o.0)) rest ≡ bare rest
bare-mapped [] = refl
bare-mapped (next ∷ rest) = ap (λ more. (next.0, next.1.0) ∷ more) (bare-mapped rest)

operands-leaves : (rest : List (Op × ((o : FormOperand) × IsBack o))) → operands (leaves (bare rest)) ≡ bare rest
operands-leaves [] = refl
operands-leaves (next ∷ rest) =
    ap (λ o. (next.0, o) ∷ operands (leaves (bare rest))) next.1.1 ∙ ap (λ more. (next.0, next.1.0) ∷ more) (operands-leaves rest)

operand_is_back : (o : open'.FormOperand-F ((o : FormOperand) × IsBack o) ((e : FormExpr) × IsWritten e))
    → IsBack (roll-FormOperand (map-FormOperand ((o : FormOperand) × IsBack o) ((e : FormExpr) × IsWritten e) FormOperand FormExpr (λ x. x.0) (λ x. x.0) o))
operand_is_back (open'.Num z) = ap operand_of (leaf-Num z)
operand_is_back (open'.Name n) = ap operand_of (leaf-Name n)
operand_is_back (open'.Paren e) = ap operand_of (leaf-in_parentheses e.0) ∙ ap in_parentheses e.1

made : FormOperand × List (Op × FormOperand) → FormExpr
made parts = roll-FormExpr (record { first = parts.0; rest = parts.1 })

parts_are_back : (first : (o : FormOperand) × IsBack o) (rest : List (Op × ((o : FormOperand) × IsBack o))) → IsWritten (made (first.0, bare rest))
unfolding made
parts_are_back first rest =
    ap written (form_tree-roll first.0 (bare rest)) ∙ ap made (parts_of-chained (operand_leaf first.0) (leaves (bare rest)))
    ∙ ap (λ o. made (o, operands (leaves (bare rest)))) first.1 ∙ ap (λ more. made (first.0, more)) (operands-leaves rest)

expression_is_written : (e : open'.FormExpr-F ((o : FormOperand) × IsBack o) ((e : FormExpr) × IsWritten e))
    → IsWritten (roll-FormExpr (map-FormExpr ((o : FormOperand) × IsBack o) ((e : FormExpr) × IsWritten e) FormOperand FormExpr (λ x. x.0) (λ x. x.0) e))
unfolding made
expression_is_written e = subst (λ more. IsWritten (made (e.first.0, more))) (sym (bare-mapped e.rest)) (parts_are_back e.first e.rest)

-- an expression is that of its tree
pub written-form_tree : (e : FormExpr) → written (form_tree e) ≡ e
written-form_tree = ind-FormExpr IsBack IsWritten
    (λ x y is. subst (λ z. IsBack (roll-FormOperand z)) is (operand_is_back y))
    (λ x y is. subst (λ z. IsWritten (roll-FormExpr z)) is (expression_is_written y))

-- two expressions with one tree are one
pub form_tree-injective : (e f : FormExpr) → form_tree e ≡ form_tree f → e ≡ f
form_tree-injective e f same = sym (written-form_tree e) ∙ ap written same ∙ written-form_tree f
