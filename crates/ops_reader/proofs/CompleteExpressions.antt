-- An expression leads from what stands before it to what is read behind it.
use Rattle.std.proofs.Common.{◌≡◌, ℕ, zero, suc, ◌+◌, ◌≤◌, ◌<◌, true, List, [], ◌∷◌, ◌++◌, Some, length, refl, ap, subst, nat_lt, append_assoc, length-append, arith}
use Rattle.std.proofs.lemmas.Bool.Decides.{nat_tests}
use Rattle.std.specs.Option.{option_map}
use Rattle.ops_text.specs.Names.{Names}
use Rattle.rule_base.specs.declared.expression.Op.{Op}
use Rattle.rule_base.specs.declared.expression.Op.TheVariants as op
use Rattle.rule_base.specs.Expression.{Tree, single, joined, Leaf, number, parentheses}
use Rattle.rule_base.specs.Expression as tree
use Rattle.ops_tokens.specs.declared.token.Keyword.TheVariants as a_keyword
use Rattle.ops_reader.specs.declared.form.FormExpr.{FormExpr, roll-FormExpr}
use Rattle.ops_reader.specs.declared.form.FormOperand.{roll-FormOperand}
use Rattle.ops_reader.specs.declared.form.FormOperand.TheOpen as an_operand
use Rattle.ops_reader.specs.declared.part.Step.TheVariants.{Part, Whole}
use Rattle.ops_reader.specs.declared.part.ExprPart.{ExprPart}
use Rattle.ops_reader.specs.declared.part.Before.{Before}
use Rattle.ops_reader.specs.declared.part.Before.TheVariants as of_before
use Rattle.ops_reader.specs.declared.part.Inner.TheVariants as of_inner
use Rattle.ops_tokens.specs.Token.{Token, Open, Close, Minus, Slashes, Variable, Integer, Plain}
use Rattle.ops_reader.specs.FormTree.{form_tree}
use Rattle.ops_reader.specs.Grammar.{◌⨾◌, the, variable, operator, expression, operand}
use Rattle.ops_reader.specs.Taken.{variable_of}
use Rattle.ops_reader.specs.ExpressionReading.{with_operand, in_parentheses, behind, ahead, parenthesis_opened, expression_after}
use Rattle.ops_reader.specs.TermReading.{no_expression}
use Rattle.ops_reader.specs.Reading.{Read}
use Rattle.ops_reader.proofs.ExpressionLemmas.{closed-push}
use Rattle.ops_reader.proofs.FormTreeLemmas.{parts_of, operand_of, written, written-form_tree}
use Rattle.ops_reader.proofs.CompleteBasics.{Leads, leads_then, leads_never, leads_the, leads_keyword, leads_taken, variable_taken, IsWithin}

-- an expression has been read within these parentheses
abbrev pub read_to : List Before → FormExpr → ExprPart
read_to outer e = record { outer = outer; inner = of_inner.Behind e }

-- an expression behind what stands before it
abbrev onto : Before → Tree → FormExpr
onto of_before.Nothing t = written t
onto (of_before.Operator e op) t = roll-FormExpr (record { first = e.first; rest = e.rest ++ (op, (parts_of t).0) ∷ (parts_of t).1 })

onto-single : (before : Before) (l : Leaf) → with_operand before (operand_of l) ≡ onto before (single l)
onto-single of_before.Nothing l = refl
onto-single (of_before.Operator e op) l = refl

onto-joined : (before : Before) (l : Leaf) (op : Op) (rest : Tree) → onto (of_before.Operator (with_operand before (operand_of l)) op) rest ≡ onto before (joined l op rest)
onto-joined of_before.Nothing l op rest = refl
onto-joined (of_before.Operator e o) l op rest =
    ap (λ more. roll-FormExpr (record { first = e.first; rest = more })) (append_assoc e.rest ((o, operand_of l) ∷ []) ((op, (parts_of rest).0) ∷ (parts_of rest).1))

operand_named : (n : ℕ) (outer : List Before) (before : Before) (names : Names) (token : Token) (after : Names) → variable_of names token ≡ Some (after, n)
    → expression_after names (ahead outer before) token ≡ Some (after, Part (behind outer before (roll-FormOperand (an_operand.Name n))))
operand_named n outer before names (Variable name) after e =
    ap (option_map (λ v. (v.0, Part (behind outer before (roll-FormOperand (an_operand.Name v.1)))))) e
operand_named n outer before names token after e = absurd (cc)

opens : (outer : List Before) (before : Before) (names : Names) → length outer < 32
    → expression_after names (ahead outer before) Open ≡ Some (names, Part (ahead (outer ++ before ∷ []) of_before.Nothing))
opens outer before names less =
    let small : nat_lt (length outer) 32 ≡ true = grind (arith, nat_tests, less) in
    ap (λ b. parenthesis_opened b names outer before) small

pub closes : (outer : List Before) (before : Before) (e : FormExpr) (names : Names)
    → expression_after names (read_to (outer ++ before ∷ []) e) Close ≡ Some (names, Part (behind outer before (in_parentheses e)))
closes outer before e names = ap (λ s. Some (names, s)) (closed-push outer before e)

leads_operator : (from : ExprPart → Names → Read) (to : FormExpr → Names → Read) → IsWithin expression_after from to
    → (op : Op) (outer : List Before) (e : FormExpr) → Leads (operator op) (from (read_to outer e)) (from (ahead outer (of_before.Operator e op)))
leads_operator from to there op.Add outer e =
    leads_keyword a_keyword.Plus (from (read_to outer e)) (from (ahead outer (of_before.Operator e op.Add)))
    (λ names word. there names (read_to outer e) (Plain word (Some a_keyword.Plus)) (names, Part (ahead outer (of_before.Operator e op.Add))) refl)
leads_operator from to there op.Sub outer e =
    leads_the Minus (from (read_to outer e)) (from (ahead outer (of_before.Operator e op.Sub)))
    (λ names. there names (read_to outer e) Minus (names, Part (ahead outer (of_before.Operator e op.Sub))) refl)
leads_operator from to there op.Mul outer e =
    leads_keyword a_keyword.Star (from (read_to outer e)) (from (ahead outer (of_before.Operator e op.Mul)))
    (λ names word. there names (read_to outer e) (Plain word (Some a_keyword.Star)) (names, Part (ahead outer (of_before.Operator e op.Mul))) refl)
leads_operator from to there op.Div outer e =
    leads_the Slashes (from (read_to outer e)) (from (ahead outer (of_before.Operator e op.Div)))
    (λ names. there names (read_to outer e) Slashes (names, Part (ahead outer (of_before.Operator e op.Div))) refl)
leads_operator from to there op.Rem outer e =
    leads_keyword a_keyword.Backslashes (from (read_to outer e)) (from (ahead outer (of_before.Operator e op.Rem)))
    (λ names word. there names (read_to outer e) (Plain word (Some a_keyword.Backslashes)) (names, Part (ahead outer (of_before.Operator e op.Rem))) refl)

mutual
  leads_tree : (from : ExprPart → Names → Read) (to : FormExpr → Names → Read) → IsWithin expression_after from to
      → (room : ℕ) (t : Tree) (outer : List Before) (before : Before) → length outer + room ≤ 32
      → Leads (expression room t) (from (ahead outer before)) (from (read_to outer (onto before t)))
  leads_tree from to there room (single l) outer before few =
      subst (λ e. Leads (expression room (single l)) (from (ahead outer before)) (from (read_to outer e))) (onto-single before l)
      (leads_operand from to there room l outer before few)
  leads_tree from to there room (joined l op rest) outer before few =
      let first = with_operand before (operand_of l) in
      subst (λ e. Leads (expression room (joined l op rest)) (from (ahead outer before)) (from (read_to outer e))) (onto-joined before l op rest)
      (leads_then (operand room l ⨾ operator op) (expression room rest) (from (ahead outer before)) (from (ahead outer (of_before.Operator first op))) (from (read_to outer (onto (of_before.Operator first op) rest)))
      (leads_then (operand room l) (operator op) (from (ahead outer before)) (from (read_to outer first)) (from (ahead outer (of_before.Operator first op)))
      (leads_operand from to there room l outer before few)
      (leads_operator from to there op outer first))
      (leads_tree from to there room rest outer (of_before.Operator first op) few))

  leads_operand : (from : ExprPart → Names → Read) (to : FormExpr → Names → Read) → IsWithin expression_after from to
      → (room : ℕ) (l : Leaf) (outer : List Before) (before : Before) → length outer + room ≤ 32
      → Leads (operand room l) (from (ahead outer before)) (from (behind outer before (operand_of l)))
  leads_operand from to there room (number z) outer before few =
      leads_the (Integer z) (from (ahead outer before)) (from (behind outer before (operand_of (number z))))
      (λ names. there names (ahead outer before) (Integer z) (names, Part (behind outer before (operand_of (number z)))) refl)
  leads_operand from to there room (tree.variable n) outer before few =
      leads_taken variable_of variable variable_taken n (from (ahead outer before)) (from (behind outer before (operand_of (tree.variable n))))
      (λ names token after e. there names (ahead outer before) token (after, Part (behind outer before (operand_of (tree.variable n)))) (operand_named n outer before names token after e))
  leads_operand from to there zero (parentheses inner) outer before few =
      leads_never (operand zero (parentheses inner)) (from (ahead outer before)) (from (behind outer before (operand_of (parentheses inner)))) (λ b tokens after h. h)
  leads_operand from to there (suc room) (parentheses inner) outer before few =
      let deeper = outer ++ before ∷ [] in
      leads_then (the Open ⨾ expression room inner) (the Close) (from (ahead outer before)) (from (read_to deeper (written inner))) (from (behind outer before (operand_of (parentheses inner))))
      (leads_then (the Open) (expression room inner) (from (ahead outer before)) (from (ahead deeper of_before.Nothing)) (from (read_to deeper (written inner)))
      (leads_the Open (from (ahead outer before)) (from (ahead deeper of_before.Nothing))
      (λ names. there names (ahead outer before) Open (names, Part (ahead deeper of_before.Nothing)) (opens outer before names (omega (arith, few)))))
      (leads_tree from to there room inner deeper of_before.Nothing (omega (arith, few, length-append outer (before ∷ [])))))
      (leads_the Close (from (read_to deeper (written inner))) (from (behind outer before (operand_of (parentheses inner))))
      (λ names. there names (read_to deeper (written inner)) Close (names, Part (behind outer before (operand_of (parentheses inner)))) (closes outer before (written inner) names)))

-- an expression, before the bracket behind it
pub leads_expression : (from : ExprPart → Names → Read) (to : FormExpr → Names → Read) → IsWithin expression_after from to
    → (e : FormExpr) → Leads (expression 32 (form_tree e)) (from no_expression) (from (read_to [] e))
leads_expression from to there e =
    subst (λ f. Leads (expression 32 (form_tree e)) (from no_expression) (from (read_to [] f))) (written-form_tree e)
    (leads_tree from to there 32 (form_tree e) [] of_before.Nothing (omega arith))

-- the bracket behind an expression
pub leads_expression_end : (from : ExprPart → Names → Read) (to : FormExpr → Names → Read) → IsWithin expression_after from to
    → (e : FormExpr) → Leads (the Close) (from (read_to [] e)) (to e)
leads_expression_end from to there e =
    leads_the Close (from (read_to [] e)) (to e) (λ names. there names (read_to [] e) Close (names, Whole e) refl)
