-- Texts that are printed piece by piece.
use Rattle.std.proofs.Common.{◌≡◌, ℕ, List, [], ◌∷◌, ◌++◌, codes, sym, ap, ◌∙◌, append_assoc, append-nil}
use Rattle.std.specs.List.{flat_map}
use Rattle.ops_text.specs.Names.{Names}
use Rattle.rule_base.specs.declared.expression.Op.{Op}
use Rattle.rule_base.specs.Expression.{Leaf, chained}
use Rattle.ops_reader.specs.declared.form.FormExpr.{FormExpr}
use Rattle.ops_reader.specs.declared.form.FormOperand.{FormOperand}
use Rattle.ops_reader.specs.FormTree.{form_tree, operand_leaf}
use Rattle.form_printer.specs.CanonicalActions.{operator_text, operand_text, expression_text}
use Rattle.ops_reader.proofs.FormTreeLemmas.{leaves, form_tree-out}

-- the text of an operator with its operand
abbrev pub link_text : Names → Op × FormOperand → List ℕ
link_text names link = codes " " ++ operator_text link.0 ++ codes " " ++ operand_text names (operand_leaf link.1)

-- the texts of operators with their operands
abbrev pub links_text : Names → List (Op × FormOperand) → List ℕ
links_text names links = flat_map (link_text names) links

chained_text : (names : Names) (first : Leaf) (links : List (Op × FormOperand)) → expression_text names (chained first (leaves links)) ≡ operand_text names first ++ links_text names links
chained_text names first [] = sym (append-nil (operand_text names first))
chained_text names first (link ∷ links) =
    ap (λ l. operand_text names first ++ codes " " ++ operator_text link.0 ++ codes " " ++ l) (chained_text names (operand_leaf link.1) links)
    ∙ simp append_assoc

-- the text of an expression from its first operand on
pub expression_text-links : (names : Names) (e : FormExpr) → expression_text names (form_tree e) ≡ operand_text names (operand_leaf e.first) ++ links_text names e.rest
expression_text-links names e =
    ap (expression_text names) (form_tree-out e) ∙ chained_text names (operand_leaf e.first) e.rest
