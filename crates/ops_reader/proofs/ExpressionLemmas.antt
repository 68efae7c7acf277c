-- The innermost of several parentheses stands last.
use Rattle.std.proofs.Common.{◌≡◌, List, [], ◌∷◌, ◌++◌, refl, ap}
use Rattle.ops_reader.specs.declared.form.FormExpr.{FormExpr}
use Rattle.ops_reader.specs.declared.part.Step.TheVariants.{Part}
use Rattle.ops_reader.specs.declared.part.Before.{Before}
use Rattle.ops_reader.specs.ExpressionReading.{behind, in_parentheses, enclosed, parenthesis_closed, closed}

parenthesis_closed-push : (first : Before) (outer : List Before) (last : Before) (e : FormExpr)
    → parenthesis_closed first (outer ++ last ∷ []) e ≡ behind (first ∷ outer) last (in_parentheses e)
parenthesis_closed-push first [] last e = refl
parenthesis_closed-push first (next ∷ outer) last e = ap (enclosed first) (parenthesis_closed-push next outer last e)

pub closed-push : (outer : List Before) (last : Before) (e : FormExpr) → closed (outer ++ last ∷ []) e ≡ Part (behind outer last (in_parentheses e))
closed-push [] last e = refl
closed-push (first ∷ outer) last e = ap Part (parenthesis_closed-push first outer last e)
