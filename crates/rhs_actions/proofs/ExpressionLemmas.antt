-- How an expression is evaluated from its last operand on.
use Rattle.std.proofs.Common.{◌≡◌, ℕ, ◌+◌, ◌<◌, List, [], ◌∷◌, length, Option, Some, Result, Ok, Err, ℤ, map, drop, get_or, suc, zero, arith, refl, sym, ◌∙◌, ap}
use Rattle.rule_base.specs.declared.expression.Op.{Op}
use Rattle.rule_base.specs.declared.expression.Operand.{Operand}
use Rattle.rule_base.specs.declared.expression.Expr.{Expr}
use Rattle.rule_base.specs.declared.expression.Operand.TheOpen as open'
use Rattle.rule_base.specs.declared.expression.Operand.TheShapes.{former-Expr-rest-at-2}
use Rattle.rule_base.specs.declared.expression.Operand.TheFolds.{fold_out-Expr}
use Rattle.rule_base.specs.declared.entry.FaultCause.{FaultCause}
use Rattle.rule_base.specs.Chains.{◌>>=◌}
use Rattle.rule_base.specs.Bindings.{Bindings}
use Rattle.rule_base.specs.Expression.{Tree, Leaf, chained, leaf_of, tree_of}
use Rattle.rule_base.specs.Compute.{applied, computed, operand_value}
use Rattle.element_tests.proofs.PlaceLemmas.{drop_at_place}
use Rattle.rhs_actions.specs.Expressions.{leaf, with_right}

-- operators with their operands as leaves
abbrev pub leaves : List (Op × Operand) → List (Op × Leaf)
leaves [] = []
leaves (next ∷ rest) = (next.0, leaf next.1) ∷ leaves rest

leaves-mapped : (rest : List (Op × Operand)) → map ((former-Expr-rest-at-2).map Operand Leaf leaf) rest ≡ leaves rest
leaves-mapped [] = refl
leaves-mapped (next ∷ rest) = ap (λ more. (next.0, leaf next.1) ∷ more) (leaves-mapped rest)

-- an expression's tree, by its first operand and the rest
pub tree_of-parts : (e : Expr) → tree_of e ≡ chained (leaf e.first) (leaves e.rest)
tree_of-parts e =
    fold_out-Expr Leaf Tree leaf_of (λ (e : open'.Expr-F Leaf Tree). chained e.first e.rest) e ∙ ap (chained (leaf e.first)) (leaves-mapped e.rest)

-- what stands from a place on gives, where it is there, what an operand before it makes of it
abbrev pub GivesAll : Bindings → List (Op × Operand) → Option (Op × ℤ) → Type 0
GivesAll b rest right = (first : Leaf) → computed (chained first (leaves rest)) b ≡ with_right right (operand_value first b)

-- the operand before a place gives a number
pub GivesAll-next : (b : Bindings) (rest : List (Op × Operand)) (i : ℕ) (x : Op × Operand) (right : Option (Op × ℤ)) (z : ℤ)
    → i < length rest → x ≡ get_or rest i x → GivesAll b (drop (i + 1) rest) right → Ok z ≡ with_right right (operand_value (leaf x.1) b) → GivesAll b (drop i rest) (Some (x.0, z))
GivesAll-next b rest i x right z within at gives is first =
    ap (λ xs. computed (chained first (leaves xs)) b) (drop_at_place rest i x within at)
    ∙ ap (λ r. r >>= λ right. operand_value first b >>= λ left. applied x.0 left right) (gives (leaf x.1) ∙ sym is)

-- or it fails, and so all does
fails_first : (first : Leaf) (op : Op) (b : Bindings) (cause : FaultCause) (r : Result ℤ FaultCause) → r ≡ Err cause → (r >>= λ right. operand_value first b >>= λ left. applied op left right) ≡ Err cause
fails_first first op b cause r is = ap (λ r. r >>= λ right. operand_value first b >>= λ left. applied op left right) is

fails_at : (b : Bindings) (rest : List (Op × Operand)) (i : ℕ) (x : Op × Operand) (cause : FaultCause)
    → i < length rest → x ≡ get_or rest i x → computed (chained (leaf x.1) (leaves (drop (i + 1) rest))) b ≡ Err cause → (first : Leaf) → computed (chained first (leaves rest)) b ≡ Err cause
fails_at b [] i x cause within at is first = absurd (omega (arith, within))
fails_at b (y ∷ ys) zero x cause within at is first = fails_first first y.0 b cause _ (ap (λ (z : Op × Operand). computed (chained (leaf z.1) (leaves ys)) b) (sym at) ∙ is)
fails_at b (y ∷ ys) (suc i) x cause within at is first =
    let next : suc (i + 1) ≡ suc i + 1 = omega arith in
    fails_first first y.0 b cause _ (fails_at b ys i x cause (omega (arith, within)) at (ap (λ n. computed (chained (leaf x.1) (leaves (drop n (y ∷ ys)))) b) next ∙ is) (leaf y.1))

pub fails : (b : Bindings) (e : Expr) (rest : List (Op × Operand)) (i : ℕ) (x : Op × Operand) (right : Option (Op × ℤ)) (cause : FaultCause)
    → rest ≡ e.rest → i < length rest → x ≡ get_or rest i x → GivesAll b (drop (i + 1) rest) right → Err cause ≡ with_right right (operand_value (leaf x.1) b) → computed (tree_of e) b ≡ Err cause
fails b e rest i x right cause same within at gives is =
    ap (λ t. computed t b) (tree_of-parts e) ∙ ap (λ xs. computed (chained (leaf e.first) (leaves xs)) b) (sym same)
    ∙ fails_at b rest i x cause within at (gives (leaf x.1) ∙ sym is) (leaf e.first)

-- all operands have been evaluated
pub gives_all : (b : Bindings) (e : Expr) (rest : List (Op × Operand)) (right : Option (Op × ℤ)) → rest ≡ e.rest → GivesAll b rest right → computed (tree_of e) b ≡ with_right right (operand_value (leaf e.first) b)
gives_all b e rest right same gives =
    ap (λ t. computed t b) (tree_of-parts e) ∙ ap (λ xs. computed (chained (leaf e.first) (leaves xs)) b) (sym same) ∙ gives (leaf e.first)
