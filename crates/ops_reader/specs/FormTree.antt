-- The expressions of forms as plain trees, in which a variable is the number of its name.
use Rattle.rule_base.specs.Expression.{Tree, Leaf, number, variable, parentheses, chained}
use Rattle.ops_reader.specs.declared.form.FormOperand.{FormOperand, fold-FormOperand}
use Rattle.ops_reader.specs.declared.form.FormExpr.{FormExpr, fold-FormExpr}
use Rattle.ops_reader.specs.declared.form.FormOperand.TheOpen as open'

-- an operand as a leaf, where expressions inside it are trees already
abbrev pub form_leaf : open'.FormOperand-F Leaf Tree → Leaf
form_leaf (open'.Num z) = number z
form_leaf (open'.Name n) = variable n
form_leaf (open'.Paren inner) = parentheses inner

-- the expression of a form as a tree
abbrev pub form_tree : FormExpr → Tree
form_tree = fold-FormExpr Leaf Tree form_leaf (λ (e : open'.FormExpr-F Leaf Tree). chained e.first e.rest)

-- an operand of such an expression as a leaf
abbrev pub operand_leaf : FormOperand → Leaf
operand_leaf = fold-FormOperand Leaf Tree form_leaf (λ (e : open'.FormExpr-F Leaf Tree). chained e.first e.rest)
