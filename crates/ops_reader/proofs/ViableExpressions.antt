-- A part of an expression has an end: an operand where one is to come, and then as many brackets as are open.
use Rattle.std.proofs.Common.{◌≡◌, pos, List, [], ◌∷◌, ◌++◌, Some, refl, sym, ap, subst, append_assoc, append-nil}
use Rattle.ops_text.specs.Names.{Names}
use Rattle.ops_reader.specs.declared.form.FormExpr.{FormExpr}
use Rattle.ops_reader.specs.declared.form.FormOperand.{roll-FormOperand}
use Rattle.ops_reader.specs.declared.form.FormOperand.TheOpen as an_operand
use Rattle.ops_reader.specs.declared.part.Step.TheVariants.{Part, Whole}
use Rattle.ops_reader.specs.declared.part.ExprPart.{ExprPart}
use Rattle.ops_reader.specs.declared.part.Before.{Before}
use Rattle.ops_reader.specs.declared.part.Inner.{Inner}
use Rattle.ops_reader.specs.declared.part.Inner.TheVariants as of_inner
use Rattle.ops_tokens.specs.Token.{Token, Close, Integer}
use Rattle.ops_reader.specs.ExpressionReading.{with_operand, in_parentheses, behind, ahead, expression_after}
use Rattle.ops_reader.specs.Reading.{Read, next}
use Rattle.ops_reader.proofs.CompleteBasics.{leads_by, IsWithin}
use Rattle.ops_reader.proofs.CompleteExpressions.{read_to, closes}
use Rattle.ops_reader.proofs.ViableBasics.{EndsBy, ends_behind}

-- one token, and then an end
pub ends_by_token : {V : Type 0} (token : Token) (from middle : Read) (to : V → Names → Read) (back : List Token) → next from token ≡ Some middle → EndsBy middle to back → EndsBy from to (token ∷ back)
ends_by_token token from middle to back e end = ends_behind from middle to (token ∷ []) back (λ more. leads_by token from middle e more) end

-- one token as the end
pub ends_at_token : {V : Type 0} (token : Token) (from : Read) (to : V → Names → Read) (whole : V) (names : Names) → next from token ≡ Some (to whole names) → EndsBy from to (token ∷ [])
ends_at_token token from to whole names e = record { whole = whole; names = names; ends = λ more. leads_by token from (to whole names) e more }

-- a bracket for each open parenthesis
abbrev brackets : List Before → List Token
brackets [] = []
brackets (before ∷ outer) = Close ∷ brackets outer

abbrev rest_of_inner : Inner → List Token
rest_of_inner (of_inner.Before before) = Integer (pos 0) ∷ []
rest_of_inner (of_inner.Behind e) = []

-- the shortest end
abbrev pub rest_of_expression : ExprPart → List Token
rest_of_expression part = rest_of_inner part.inner ++ (brackets part.outer ++ Close ∷ [])

brackets-push : (outer : List Before) (before : Before) → brackets (outer ++ before ∷ []) ≡ Close ∷ brackets outer
brackets-push [] before = refl
brackets-push (first ∷ outer) before = ap (λ l. Close ∷ l) (brackets-push outer before)

-- what holds of the empty list, and of a list with one more element at its end, holds of all lists
by_last_element : {A : Type 0} (P : List A → Type 0) → ((xs : List A) (x : A) → P xs → P (xs ++ x ∷ [])) → (xs ys : List A) → P xs → P (xs ++ ys)
by_last_element P more xs [] h = subst P (sym (append-nil xs)) h
by_last_element P more xs (y ∷ ys) h = subst P (append_assoc xs (y ∷ []) ys) (by_last_element P more (xs ++ y ∷ []) ys (more xs y h))

abbrev BracketsEnd : (ExprPart → Names → Read) → (FormExpr → Names → Read) → List Before → Type 0
BracketsEnd from to outer = (e : FormExpr) (names : Names) → EndsBy (from (read_to outer e) names) to (brackets outer ++ Close ∷ [])

one_bracket_more : (from : ExprPart → Names → Read) (to : FormExpr → Names → Read) → IsWithin expression_after from to
    → (outer : List Before) (before : Before) → BracketsEnd from to outer → BracketsEnd from to (outer ++ before ∷ [])
one_bracket_more from to there outer before h e names =
    subst (λ l. EndsBy (from (read_to (outer ++ before ∷ []) e) names) to (l ++ Close ∷ [])) (sym (brackets-push outer before))
    (ends_by_token Close (from (read_to (outer ++ before ∷ []) e) names) (from (behind outer before (in_parentheses e)) names) to (brackets outer ++ Close ∷ [])
    (there names (read_to (outer ++ before ∷ []) e) Close (names, Part (behind outer before (in_parentheses e))) (closes outer before e names))
    (h (with_operand before (in_parentheses e)) names))

brackets_end : (from : ExprPart → Names → Read) (to : FormExpr → Names → Read) → IsWithin expression_after from to → (outer : List Before) → BracketsEnd from to outer
brackets_end from to there outer =
    by_last_element (BracketsEnd from to) (one_bracket_more from to there) [] outer
    (λ e names. ends_at_token Close (from (read_to [] e) names) to e names (there names (read_to [] e) Close (names, Whole e) refl))

inner_ends : (from : ExprPart → Names → Read) (to : FormExpr → Names → Read) → IsWithin expression_after from to
    → (outer : List Before) (inner : Inner) (names : Names) → EndsBy (from (record { outer = outer; inner = inner }) names) to (rest_of_inner inner ++ (brackets outer ++ Close ∷ []))
inner_ends from to there outer (of_inner.Before before) names =
    let zero = roll-FormOperand (an_operand.Num (pos 0)) in
    ends_by_token (Integer (pos 0)) (from (ahead outer before) names) (from (behind outer before zero) names) to (brackets outer ++ Close ∷ [])
    (there names (ahead outer before) (Integer (pos 0)) (names, Part (behind outer before zero)) refl)
    (brackets_end from to there outer (with_operand before zero) names)
inner_ends from to there outer (of_inner.Behind e) names = brackets_end from to there outer e names

pub expression_ends : (from : ExprPart → Names → Read) (to : FormExpr → Names → Read) → IsWithin expression_after from to
    → (part : ExprPart) (names : Names) → EndsBy (from part names) to (rest_of_expression part)
expression_ends from to there part names = inner_ends from to there part.outer part.inner names
