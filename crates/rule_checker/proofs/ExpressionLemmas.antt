-- What an expression of a compute becomes, by its first operand and the rest.
use Rattle.std.proofs.Common.{◌≡◌, ℕ, ◌+◌, ◌<◌, ◌≤◌, List, [], ◌∷◌, ◌++◌, length, get_or, drop, Result, Ok, map, refl, ap, ◌∙◌, sym, subst}
use Rattle.std.proofs.lemmas.List.{at_drop_more, at_drop_all}
use Rattle.rule_base.specs.declared.expression.Op.{Op}
use Rattle.rule_base.specs.declared.expression.Operand.{Operand}
use Rattle.rule_base.specs.declared.expression.Expr.{Expr, roll-Expr}
use Rattle.rule_base.specs.Chains.{◌>>=◌}
use Rattle.ops_reader.specs.declared.form.FormOperand.{FormOperand}
use Rattle.ops_reader.specs.declared.form.FormExpr.{FormExpr}
use Rattle.ops_reader.specs.declared.form.FormOperand.TheShapes.{former-FormExpr-rest-at-2}
use Rattle.ops_reader.specs.declared.form.FormOperand.TheFolds.{fold_out-FormExpr}
use Rattle.rule_checker.specs.declared.refusal.CheckKind.{CheckKind}
use Rattle.rule_checker.specs.declared.refusal.Refusal.{Refusal}
use Rattle.rule_checker.specs.declared.scope.Scope.{Scope}
use Rattle.rule_checker.specs.Walk.{after_each}
use Rattle.rule_checker.specs.Outcome.{Tells}
use Rattle.rule_checker.specs.Expressions.{MadeOperand, MadeExpression, with_inner, with_operand, joined, operand_of, expression_of}
use Rattle.rule_checker.proofs.WalkLemmas.{tells_first, tells_second}

-- operators with their operands, each of which is made alone
abbrev pub made_each : List (Op × FormOperand) → List (Op × MadeOperand)
made_each [] = []
made_each (next ∷ rest) = (next.0, operand_of next.1) ∷ made_each rest

pub mapped : (rest : List (Op × FormOperand)) → map ((former-FormExpr-rest-at-2).map FormOperand MadeOperand operand_of) rest ≡ made_each rest
mapped [] = refl
mapped (next ∷ rest) = ap (λ more. (next.0, operand_of next.1) ∷ more) (mapped rest)

expression_of-parts : (e : FormExpr) (scope : Scope) → expression_of e scope ≡ joined (record { first = operand_of e.first; rest = made_each e.rest }) scope
expression_of-parts e scope =
    ap (λ (made : MadeExpression). made scope) (fold_out-FormExpr MadeOperand MadeExpression with_inner joined e)
    ∙ ap (λ rest. joined (record { first = operand_of e.first; rest = rest }) scope) (mapped e.rest)

-- all operands are made
pub expression_of-ok : (e : FormExpr) (scope : Scope) (first : Operand) (s : List (Op × Operand)) (xs : List (Op × FormOperand)) (i : ℕ)
    → operand_of e.first scope ≡ Ok first → xs ≡ e.rest → length xs ≤ i → after_each (with_operand scope) s (made_each (drop i xs)) ≡ after_each (with_operand scope) [] (made_each xs)
    → expression_of e scope ≡ Ok (roll-Expr (record { first = first; rest = s }))
expression_of-ok e scope first s xs i made same end walk =
    let all : after_each (with_operand scope) [] (made_each e.rest) ≡ Ok s =
    ap (λ ys. after_each (with_operand scope) [] (made_each ys)) (sym same) ∙ sym walk ∙ at_drop_all (λ ys. after_each (with_operand scope) s (made_each ys)) xs i end in
    expression_of-parts e scope
    ∙ ap (λ o. o >>= λ f. after_each (with_operand scope) [] (made_each e.rest) >>= λ rest. Ok (roll-Expr (record { first = f; rest = rest }))) made
    ∙ ap (λ o. o >>= λ rest. Ok (roll-Expr (record { first = first; rest = rest }))) all

-- an operand isn't made
tells_operand : (scope : Scope) (s : List (Op × Operand)) (xs : List (Op × FormOperand)) (i : ℕ) (x : Op × FormOperand) (whole : Result (List (Op × Operand)) CheckKind) (refusal : Refusal)
    → Tells (operand_of x.1 scope) refusal → x ≡ get_or xs i x → i < length xs → after_each (with_operand scope) s (made_each (drop i xs)) ≡ whole → Tells whole refusal
tells_operand scope s xs i x whole refusal tells is within same = record {
  violated = λ kind violates.
      sym same ∙ at_drop_more (λ ys. after_each (with_operand scope) s (made_each ys)) xs i x within
      ∙ ap (λ y. after_each (with_operand scope) s (made_each (y ∷ drop (i + 1) xs))) (sym is)
      ∙ ap (λ o. (o >>= λ operand. Ok (s ++ (x.0, operand) ∷ [])) >>= λ next. after_each (with_operand scope) next (made_each (drop (i + 1) xs))) (tells.violated kind violates);
}

pub expression_of-refused : (e : FormExpr) (scope : Scope) (first : Operand) (s : List (Op × Operand)) (xs : List (Op × FormOperand)) (i : ℕ) (x : Op × FormOperand) (refusal : Refusal)
    → operand_of e.first scope ≡ Ok first → xs ≡ e.rest → i < length xs → x ≡ get_or xs i x → Tells (operand_of x.1 scope) refusal
    → after_each (with_operand scope) s (made_each (drop i xs)) ≡ after_each (with_operand scope) [] (made_each xs) → Tells (expression_of e scope) refusal
expression_of-refused e scope first s xs i x refusal made same within is tells walk =
    let rest = tells_operand scope s xs i x (after_each (with_operand scope) [] (made_each e.rest)) refusal tells is within (walk ∙ ap (λ ys. after_each (with_operand scope) [] (made_each ys)) same) in
    subst (λ (o : Result Expr CheckKind). Tells o refusal) (sym (expression_of-parts e scope))
    (tells_second (operand_of e.first scope) first (λ f. after_each (with_operand scope) [] (made_each e.rest) >>= λ rest. Ok (roll-Expr (record { first = f; rest = rest }))) refusal made
    (tells_first (after_each (with_operand scope) [] (made_each e.rest)) (λ rest. Ok (roll-Expr (record { first = first; rest = rest }))) refusal rest))
