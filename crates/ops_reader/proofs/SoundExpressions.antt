-- What a part of an expression has been spelled by.
use Rattle.std.proofs.Common.{◌≡◌, ℕ, zero, suc, ◌<◌, Bool, true, false, List, [], ◌∷◌, ◌++◌, Option, Some, None, length, refl, sym, ap, ◌∙◌, IfSome, nat_lt, append_assoc, arith}
use Rattle.std.proofs.lemmas.Bool.Decides.{nat_tests}
use Rattle.std.specs.Option.{option_map}
use Rattle.ops_text.specs.Names.{Names}
use Rattle.rule_base.specs.declared.expression.Op.{Op}
use Rattle.rule_base.specs.Expression.{Leaf, chained}
use Rattle.ops_tokens.specs.declared.token.Keyword.TheVariants as a_keyword
use Rattle.ops_reader.specs.declared.form.FormExpr.{FormExpr}
use Rattle.ops_reader.specs.declared.form.FormOperand.{FormOperand, roll-FormOperand}
use Rattle.ops_reader.specs.declared.form.FormOperand.TheOpen as an_operand
use Rattle.ops_reader.specs.declared.part.Step.{Step}
use Rattle.ops_reader.specs.declared.part.Step.TheVariants.{Part}
use Rattle.ops_reader.specs.declared.part.ExprPart.{ExprPart}
use Rattle.ops_reader.specs.declared.part.Before.{Before}
use Rattle.ops_reader.specs.declared.part.Before.TheVariants as of_before
use Rattle.ops_reader.specs.declared.part.Inner.{Inner}
use Rattle.ops_reader.specs.declared.part.Inner.TheVariants as of_inner
use Rattle.ops_tokens.specs.Token.{Token, Open, Close, Minus, Slashes, Integer, Plain}
use Rattle.ops_reader.specs.FormTree.{form_tree, operand_leaf}
use Rattle.ops_reader.specs.Grammar.{Phrase, nothing, never, ◌⨾◌, the, variable, operator, expression, operand}
use Rattle.ops_reader.specs.Taken.{variable_of}
use Rattle.ops_reader.specs.ExpressionReading.{operator_of, with_operand, in_parentheses, behind, ahead, parenthesis_closed, closed, parenthesis_opened, operand_of, operand_after, operator_after, inner_after, expression_after}
use Rattle.ops_reader.proofs.Phrases.{Implies, Extends, then_one, within, Extends-weaker}
use Rattle.ops_reader.proofs.FormTreeLemmas.{leaves, leaf-Num, leaf-Name, leaf-in_parentheses, form_tree-out, form_tree-alone, form_tree-with_operand}
use Rattle.ops_reader.proofs.SoundBasics.{IsSpelled, IsOneToken, grown_by, mapped_spelled, variable_spelled, open_part}

-- phrases are grouped anew
pub regrouped : (x p q : Phrase) → Implies (x ⨾ (p ⨾ q)) (x ⨾ p ⨾ q)
regrouped x p q before tokens after h = record {
  front = h.front ++ h.of_second.front;
  back = h.of_second.back;
  between = h.of_second.between;
  cut = h.cut ∙ ap (λ l. h.front ++ l) h.of_second.cut ∙ sym (append_assoc h.front h.of_second.front h.of_second.back);
  of_first = record { front = h.front; back = h.of_second.front; between = h.between; cut = refl; of_first = h.of_first; of_second = h.of_second.of_first };
  of_second = h.of_second.of_second;
}

ungrouped : (x p q : Phrase) → Implies (x ⨾ p ⨾ q) (x ⨾ (p ⨾ q))
ungrouped x p q before tokens after h = record {
  front = h.of_first.front;
  back = h.of_first.back ++ h.back;
  between = h.of_first.between;
  cut = h.cut ∙ ap (λ l. l ++ h.back) h.of_first.cut ∙ append_assoc h.of_first.front h.of_first.back h.back;
  of_first = h.of_first.of_first;
  of_second = record { front = h.of_first.back; back = h.back; between = h.between; cut = refl; of_first = h.of_first.of_second; of_second = h.of_second };
}

behind_it : (x p q : Phrase) → Implies p q → Implies (x ⨾ p) (x ⨾ q)
behind_it x p q weaker before tokens after h =
    record { front = h.front; back = h.back; between = h.between; cut = h.cut; of_first = h.of_first; of_second = weaker h.between h.back after h.of_second }

behind_nothing : (p : Phrase) → Implies (nothing ⨾ p) p
behind_nothing p before tokens after h =
    let e : tokens ≡ h.back = h.cut ∙ ap (λ l. l ++ h.back) h.of_first.0 in
    rw (e, ← h.of_first.1) h.of_second

-- an operator and an operand behind an expression
expression-push : (room : ℕ) (first : Leaf) (rest : List (Op × Leaf)) (op : Op) (last : Leaf)
    → Implies (expression room (chained first rest) ⨾ operator op ⨾ operand room last) (expression room (chained first (rest ++ (op, last) ∷ [])))
expression-push room first [] op last before tokens after h = h
expression-push room first (next ∷ rest) op last before tokens after h =
    let x = operand room first ⨾ operator next.0 in
    let p = expression room (chained next.1 rest) in
    let q = expression room (chained next.1 (rest ++ (op, last) ∷ [])) in
    let grouped : (x ⨾ (p ⨾ (operator op ⨾ operand room last))) before tokens after =
    ungrouped x p (operator op ⨾ operand room last) before tokens after (ungrouped (x ⨾ p) (operator op) (operand room last) before tokens after h) in
    behind_it x (p ⨾ (operator op ⨾ operand room last)) q
    (λ b t a k. expression-push room next.1 rest op last b t a (regrouped p (operator op) (operand room last) b t a k)) before tokens after grouped

-- what stands before an operand has been spelled by
abbrev pub begun_before : ℕ → Before → Phrase
begun_before room of_before.Nothing = nothing
begun_before room (of_before.Operator e op) = expression room (form_tree e) ⨾ operator op

abbrev pub begun_inner : ℕ → Inner → Phrase
begun_inner room (of_inner.Before before) = begun_before room before
begun_inner room (of_inner.Behind e) = expression room (form_tree e)

-- the same within parentheses
abbrev pub begun_outer : List Before → ℕ → Inner → Phrase
begun_outer [] room inner = begun_inner room inner
begun_outer (before ∷ outer) zero inner = never
begun_outer (before ∷ outer) (suc room) inner = begun_before (suc room) before ⨾ the Open ⨾ begun_outer outer room inner

abbrev pub begun_expression : ExprPart → Phrase
begun_expression part = begun_outer part.outer 32 part.inner

-- the whole of an expression, with the bracket behind it
abbrev pub whole_expression : FormExpr → Phrase
whole_expression e = expression 32 (form_tree e) ⨾ the Close

-- an operand behind what stands before it
then_operand : (room : ℕ) (before : Before) (o : FormOperand) → Implies (begun_before room before ⨾ operand room (operand_leaf o)) (expression room (form_tree (with_operand before o)))
then_operand room of_before.Nothing o before tokens after h = rw (form_tree-alone o) (behind_nothing (operand room (operand_leaf o)) before tokens after h)
then_operand room (of_before.Operator e op) o before tokens after h =
    rw (form_tree-with_operand e op o) (expression-push room (operand_leaf e.first) (leaves e.rest) op (operand_leaf o) before tokens after (rw (← form_tree-out e) h))

-- what a token makes of the part behind the last open parenthesis, it makes of the whole part
outer_extends : (outer : List Before) (room : ℕ) (inner more : Inner) (names : Names) (token : Token) (after : Names)
    → ((r : ℕ) → Extends (begun_inner r inner) names token after (begun_inner r more))
    → Extends (begun_outer outer room inner) names token after (begun_outer outer room more)
outer_extends [] room inner more names token after e = e room
outer_extends (before ∷ outer) zero inner more names token after e = λ b tokens h. absurd h
outer_extends (before ∷ outer) (suc room) inner more names token after e =
    within (begun_before (suc room) before ⨾ the Open) (begun_outer outer room inner) (begun_outer outer room more) names token after
    (outer_extends outer room inner more names token after e)

-- one more parenthesis
outer_opens : (outer : List Before) (room : ℕ) (before : Before) (names : Names) → length outer < room
    → Extends (begun_outer outer room (of_inner.Before before)) names Open names (begun_outer (outer ++ before ∷ []) room (of_inner.Before of_before.Nothing))
outer_opens outer zero before names less = absurd (omega arith)
outer_opens [] (suc room) before names less =
    open_part (begun_before (suc room) before) (begun_before (suc room) before ⨾ the Open) names Open names
    (then_one (begun_before (suc room) before) (the Open) names Open names (refl, refl))
outer_opens (first ∷ outer) (suc room) before names less =
    within (begun_before (suc room) first ⨾ the Open) (begun_outer outer room (of_inner.Before before)) (begun_outer (outer ++ before ∷ []) room (of_inner.Before of_before.Nothing))
    names Open names (outer_opens outer room before names (omega arith))

-- an expression in parentheses behind what stands before them
then_parentheses : (room : ℕ) (before : Before) (e : FormExpr)
    → Implies (begun_before (suc room) before ⨾ the Open ⨾ expression room (form_tree e) ⨾ the Close) (expression (suc room) (form_tree (with_operand before (in_parentheses e))))
then_parentheses room before e b tokens after h =
    let x = begun_before (suc room) before in
    let p = the Open ⨾ expression room (form_tree e) ⨾ the Close in
    then_operand (suc room) before (in_parentheses e) b tokens after
    (rw (leaf-in_parentheses e) (behind_it x (the Open ⨾ (expression room (form_tree e) ⨾ the Close)) p (regrouped (the Open) (expression room (form_tree e)) (the Close)) b tokens after
    (ungrouped x (the Open) (expression room (form_tree e) ⨾ the Close) b tokens after
    (ungrouped (x ⨾ the Open) (expression room (form_tree e)) (the Close) b tokens after h))))

-- the end of the innermost parenthesis
parenthesis_closes : (before : Before) (outer : List Before) (room : ℕ) (e : FormExpr) (names : Names)
    → Extends (begun_outer (before ∷ outer) room (of_inner.Behind e)) names Close names
    (begun_outer (parenthesis_closed before outer e).outer room (parenthesis_closed before outer e).inner)
parenthesis_closes before outer zero e names = λ b tokens h. absurd h
parenthesis_closes before [] (suc room) e names =
    Extends-weaker (begun_before (suc room) before ⨾ the Open ⨾ expression room (form_tree e)) (begun_before (suc room) before ⨾ the Open ⨾ expression room (form_tree e) ⨾ the Close)
    (expression (suc room) (form_tree (with_operand before (in_parentheses e)))) names Close names
    (then_one (begun_before (suc room) before ⨾ the Open ⨾ expression room (form_tree e)) (the Close) names Close names (refl, refl))
    (then_parentheses room before e)
parenthesis_closes before (next ∷ outer) (suc room) e names =
    within (begun_before (suc room) before ⨾ the Open) (begun_outer (next ∷ outer) room (of_inner.Behind e))
    (begun_outer (parenthesis_closed next outer e).outer room (parenthesis_closed next outer e).inner) names Close names
    (parenthesis_closes next outer room e names)

closed_spelled : (outer : List Before) (e : FormExpr) (names : Names)
    → IsSpelled begun_expression whole_expression (begun_outer outer 32 (of_inner.Behind e)) names Close (names, closed outer e)
closed_spelled [] e names = then_one (expression 32 (form_tree e)) (the Close) names Close names (refl, refl)
closed_spelled (before ∷ outer) e names = parenthesis_closes before outer 32 e names

-- an operand without parentheses, wherever it stands
abbrev one_operand : FormOperand → Phrase
one_operand o before tokens after = (room : ℕ) → operand room (operand_leaf o) before tokens after

operand_of_spelled : (names : Names) (token : Token) → IsOneToken one_operand names token (operand_of names token)
operand_of_spelled names (Integer z) = λ room. rw (leaf-Num z) (refl, refl)
operand_of_spelled names token =
    mapped_spelled variable one_operand (λ n. roll-FormOperand (an_operand.Name n)) names token (variable_of names token)
    (λ n before tokens after h room. rw (leaf-Name n) h) (variable_spelled names token)

parenthesis_spelled : (small : Bool) (outer : List Before) (before : Before) (names : Names) → nat_lt (length outer) 32 ≡ small
    → IfSome (parenthesis_opened small names outer before) (IsSpelled begun_expression whole_expression (begun_outer outer 32 (of_inner.Before before)) names Open)
parenthesis_spelled true outer before names is = outer_opens outer 32 before names (grind (arith, nat_tests, is))
parenthesis_spelled false outer before names is = tt

operand_spelled : (names : Names) (outer : List Before) (before : Before) (token : Token)
    → IfSome (operand_after names outer before token) (IsSpelled begun_expression whole_expression (begun_outer outer 32 (of_inner.Before before)) names token)
operand_spelled names outer before Open = parenthesis_spelled (nat_lt (length outer) 32) outer before names refl
operand_spelled names outer before token =
    grown_by begun_expression whole_expression (begun_outer outer 32 (of_inner.Before before)) names token (behind outer before) one_operand (operand_of names token) (operand_of_spelled names token)
    (λ o after one. outer_extends outer 32 (of_inner.Before before) (of_inner.Behind (with_operand before o)) names token after
    (λ r. Extends-weaker (begun_before r before) (begun_before r before ⨾ operand r (operand_leaf o)) (expression r (form_tree (with_operand before o))) names token after
    (then_one (begun_before r before) (operand r (operand_leaf o)) names token after (one r)) (then_operand r before o)))

operator_of_spelled : (names : Names) (token : Token) → IfSome (operator_of token) (λ o. operator o names (token ∷ []) names)
operator_of_spelled names (Plain word (Some a_keyword.Plus)) = (word, refl, refl)
operator_of_spelled names Minus = (refl, refl)
operator_of_spelled names (Plain word (Some a_keyword.Star)) = (word, refl, refl)
operator_of_spelled names Slashes = (refl, refl)
operator_of_spelled names (Plain word (Some a_keyword.Backslashes)) = (word, refl, refl)
operator_of_spelled names token = tt

then_operator : (names : Names) (outer : List Before) (e : FormExpr) (token : Token) (o : Option Op) → IfSome o (λ op. operator op names (token ∷ []) names)
    → IfSome {T = Names × Step ExprPart FormExpr} (option_map (λ op. (names, Part (ahead outer (of_before.Operator e op)))) o) (IsSpelled begun_expression whole_expression (begun_outer outer 32 (of_inner.Behind e)) names token)
then_operator names outer e token None one = tt
then_operator names outer e token (Some op) one =
    outer_extends outer 32 (of_inner.Behind e) (of_inner.Before (of_before.Operator e op)) names token names
    (λ r. then_one (expression r (form_tree e)) (operator op) names token names one)

operator_spelled : (names : Names) (outer : List Before) (e : FormExpr) (token : Token)
    → IfSome (operator_after names outer e token) (IsSpelled begun_expression whole_expression (begun_outer outer 32 (of_inner.Behind e)) names token)
operator_spelled names outer e Close = closed_spelled outer e names
operator_spelled names outer e token = then_operator names outer e token (operator_of token) (operator_of_spelled names token)

inner_spelled : (names : Names) (outer : List Before) (inner : Inner) (token : Token)
    → IfSome (inner_after names outer inner token) (IsSpelled begun_expression whole_expression (begun_outer outer 32 inner) names token)
inner_spelled names outer (of_inner.Before before) token = operand_spelled names outer before token
inner_spelled names outer (of_inner.Behind e) token = operator_spelled names outer e token

pub expression_spelled : (names : Names) (part : ExprPart) (token : Token)
    → IfSome (expression_after names part token) (IsSpelled begun_expression whole_expression (begun_expression part) names token)
expression_spelled names part token = inner_spelled names part.outer part.inner token
