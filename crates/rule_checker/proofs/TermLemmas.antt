-- The values of actions that are checked are sound, and their expressions as deep as they are written.
use Rattle.std.proofs.Common.{◌≡◌, ℕ, ◌+◌, ◌≤◌, max, List, [], ◌∷◌, ◌++◌, Ok, map, refl, sym, ap, ◌∙◌, subst, arith, append_assoc, append-nil}
use Rattle.std.specs.List.{AllByRecursion}
use Rattle.rule_base.specs.declared.expression.Op.{Op}
use Rattle.rule_base.specs.declared.expression.Operand.{Operand, roll-Operand}
use Rattle.rule_base.specs.declared.expression.Expr.{Expr, roll-Expr}
use Rattle.rule_base.specs.declared.expression.Operand.TheOpen as made
use Rattle.rule_base.specs.declared.expression.Operand.TheShapes.{former-Expr-rest-at-2}
use Rattle.rule_base.specs.declared.expression.Operand.TheFolds.{fold-Operand, fold-roll-Operand, fold-roll-Expr}
use Rattle.rule_base.specs.declared.action.Term.{Term}
use Rattle.rule_base.specs.declared.action.Term.TheVariants as term
use Rattle.rule_base.specs.declared.action.Item.{Item}
use Rattle.rule_base.specs.declared.action.Item.TheVariants as item
use Rattle.rule_base.specs.Chains.{◌>>=◌}
use Rattle.rule_base.specs.Expression.{Tree, Leaf, number, variable, parentheses, chained, leaf_of, tree_of, depth, leaf_depth}
use Rattle.rule_base.specs.Sound.{SoundTree, SoundLeaf, SoundTerm, SoundItem}
use Rattle.ops_reader.specs.declared.form.FormOperand.{FormOperand, roll-FormOperand, map-FormOperand}
use Rattle.ops_reader.specs.declared.form.FormExpr.{FormExpr, roll-FormExpr}
use Rattle.ops_reader.specs.declared.form.FormOperand.TheOpen as written
use Rattle.ops_reader.specs.declared.form.FormOperand.TheShapes.{former-FormExpr-rest-at-2}
use Rattle.ops_reader.specs.declared.form.FormOperand.TheFolds.{fold-FormOperand, fold-roll-FormOperand, fold-roll-FormExpr, ind-FormExpr}
use Rattle.ops_reader.specs.declared.form.FormTerm.{FormTerm}
use Rattle.ops_reader.specs.declared.form.FormTerm.TheVariants as form_term
use Rattle.ops_reader.specs.declared.form.FormItem.{FormItem}
use Rattle.ops_reader.specs.declared.form.FormItem.TheVariants as form_item
use Rattle.ops_reader.specs.FormTree.{form_leaf, form_tree}
use Rattle.ops_reader.specs.Shape.{IsShallow, IsShallowItem}
use Rattle.rule_checker.specs.declared.refusal.CheckKind.TheVariants.{Unbound}
use Rattle.rule_checker.specs.declared.scope.Scope.{Scope}
use Rattle.rule_checker.specs.Walk.{after_each}
use Rattle.rule_checker.specs.Scope.{variable_of, bound_to_its_left}
use Rattle.rule_checker.specs.Expressions.{MadeOperand, MadeExpression, with_inner, with_operand, joined, operand_of, expression_of}
use Rattle.rule_checker.specs.Terms.{term_of, item_of}
use Rattle.rule_checker.proofs.ResultLemmas.{passed, found}
use Rattle.rule_checker.proofs.ScopeLemmas.{IsScope, variable_of-known}
use Rattle.rule_checker.proofs.ExpressionLemmas.{made_each, mapped}

-- the leaf of an operand of a program, and of one of a form
abbrev leaf : Operand → Leaf
leaf = fold-Operand Leaf Tree leaf_of (λ (e : made.Expr-F Leaf Tree). chained e.first e.rest)

abbrev written_leaf : FormOperand → Leaf
written_leaf = fold-FormOperand Leaf Tree form_leaf (λ (e : written.FormExpr-F Leaf Tree). chained e.first e.rest)

-- operators with the leaves of their operands
abbrev leaves : List (Op × Operand) → List (Op × Leaf)
leaves [] = []
leaves (next ∷ rest) = (next.0, leaf next.1) ∷ leaves rest

abbrev written_leaves : List (Op × FormOperand) → List (Op × Leaf)
written_leaves [] = []
written_leaves (next ∷ rest) = (next.0, written_leaf next.1) ∷ written_leaves rest

leaves-mapped : (rest : List (Op × Operand)) → map ((former-Expr-rest-at-2).map Operand Leaf leaf) rest ≡ leaves rest
leaves-mapped [] = refl
leaves-mapped (next ∷ rest) = ap (λ more. (next.0, leaf next.1) ∷ more) (leaves-mapped rest)

written_leaves-mapped : (rest : List (Op × FormOperand)) → map ((former-FormExpr-rest-at-2).map FormOperand Leaf written_leaf) rest ≡ written_leaves rest
written_leaves-mapped [] = refl
written_leaves-mapped (next ∷ rest) = ap (λ more. (next.0, written_leaf next.1) ∷ more) (written_leaves-mapped rest)

tree_of-parts : (first : Operand) (rest : List (Op × Operand)) → tree_of (roll-Expr (record { first = first; rest = rest })) ≡ chained (leaf first) (leaves rest)
tree_of-parts first rest = fold-roll-Expr Leaf Tree leaf_of (λ (e : made.Expr-F Leaf Tree). chained e.first e.rest) (record { first = first; rest = rest }) ∙ ap (chained (leaf first)) (leaves-mapped rest)

module _ (known : List ℕ) (scope : Scope) where
  -- a leaf whose variables are known, and which is as deep as it is written
  abbrev IsLeaf : Leaf → Leaf → Type 0
  IsLeaf l w = (leaf_depth l ≡ leaf_depth w) × ((vars : ℕ) → scope.vars ≤ vars → SoundLeaf vars known l)

  abbrev IsTree : Tree → Tree → Type 0
  IsTree t w = (depth t ≡ depth w) × ((vars : ℕ) → scope.vars ≤ vars → SoundTree vars known t)

  -- what an operand, and an expression, is made to
  abbrev IsOperand : FormOperand → Type 0
  IsOperand o = (m : Operand) → operand_of o scope ≡ Ok m → IsLeaf (leaf m) (written_leaf o)

  abbrev IsExpression : FormExpr → Type 0
  IsExpression e = (m : Expr) → expression_of e scope ≡ Ok m → IsTree (tree_of m) (form_tree e)

  -- operands that are made one by one
  abbrev AreMade : List (Op × Operand) → List (Op × FormOperand) → Type 0
  AreMade [] [] = Unit {0}
  AreMade [] (x ∷ xs) = ⊥
  AreMade (z ∷ zs) [] = ⊥
  AreMade (z ∷ zs) (x ∷ xs) = (operand_of x.1 scope ≡ Ok z.1) × AreMade zs xs

  all_made : (done : List (Op × Operand)) (xs : List (Op × FormOperand)) (rest : List (Op × Operand)) → after_each (with_operand scope) done (made_each xs) ≡ Ok rest → (zs : List (Op × Operand)) × (rest ≡ done ++ zs) × AreMade zs xs
  all_made done [] rest e = ([], (let same : done ≡ rest = cc in sym (append-nil done ∙ same)), tt)
  all_made done (x ∷ xs) rest e =
      let w = passed (with_operand scope done (x.0, operand_of x.1)) (λ next. after_each (with_operand scope) next (made_each xs)) rest e in
      let o = passed (operand_of x.1 scope) (λ operand. Ok (done ++ (x.0, operand) ∷ [])) w.0 w.1 in
      let next : done ++ (x.0, o.0) ∷ [] ≡ w.0 = let last = o.2 in cc in
      let more = all_made w.0 xs rest w.2 in
      ((x.0, o.0) ∷ more.0, more.1 ∙ ap (λ (d : List (Op × Operand)). d ++ more.0) (sym next) ∙ append_assoc done ((x.0, o.0) ∷ []) more.0, (o.1, more.2))

  -- the tree of operands that are made
  chained-made : (l w : Leaf) (zs : List (Op × Operand)) (xs : List (Op × FormOperand)) → IsLeaf l w → AllByRecursion (λ (x : Op × FormOperand). IsOperand x.1) xs → AreMade zs xs → IsTree (chained l (leaves zs)) (chained w (written_leaves xs))
  chained-made l w [] [] h all are = h
  chained-made l w [] (x ∷ xs) h all are = absurd are
  chained-made l w (z ∷ zs) [] h all are = absurd are
  chained-made l w (z ∷ zs) (x ∷ xs) h all are =
      let rest = chained-made (leaf z.1) (written_leaf x.1) zs xs (all.0 z.1 are.0) all.1 are.1 in
      (ap (λ n. max n (depth (chained (leaf z.1) (leaves zs)))) h.0 ∙ ap (max (leaf_depth w)) rest.0, λ vars room. (h.1 vars room, rest.1 vars room))

  -- one layer of an operand
  operand_step : IsScope known scope → (y : written.FormOperand-F ((o : FormOperand) × IsOperand o) ((e : FormExpr) × IsExpression e))
      → IsOperand (roll-FormOperand (map-FormOperand ((o : FormOperand) × IsOperand o) ((e : FormExpr) × IsExpression e) FormOperand FormExpr (λ e. e.0) (λ e. e.0) y))
  operand_step is_scope (written.Num z) m e =
      let is : roll-Operand (made.Num z) ≡ m = let given = e in let first = fold-roll-FormOperand MadeOperand MadeExpression with_inner joined (written.Num z) in let at = ap (λ (made' : MadeOperand). made' scope) first in cc in
      let l : number z ≡ leaf m = sym (fold-roll-Operand Leaf Tree leaf_of (λ (e : made.Expr-F Leaf Tree). chained e.first e.rest) (made.Num z)) ∙ ap leaf is in
      let w : number z ≡ written_leaf (roll-FormOperand (written.Num z)) = sym (fold-roll-FormOperand Leaf Tree form_leaf (λ (e : written.FormExpr-F Leaf Tree). chained e.first e.rest) (written.Num z)) in
      (sym (ap leaf_depth l) ∙ ap leaf_depth w, λ vars room. subst (SoundLeaf vars known) l tt)
  operand_step is_scope (written.Name name) m e =
      let made_so = ap (λ (made' : MadeOperand). made' scope) (fold-roll-FormOperand MadeOperand MadeExpression with_inner joined (written.Name name)) in
      let v = passed (bound_to_its_left scope name) (λ var. Ok (roll-Operand (made.Var var))) m (sym made_so ∙ e) in
      let known_var = variable_of-known known scope name v.0 is_scope (found (variable_of scope name) Unbound v.0 v.1) in
      let is : roll-Operand (made.Var v.0) ≡ m = let last = v.2 in cc in
      let l : variable v.0 ≡ leaf m = sym (fold-roll-Operand Leaf Tree leaf_of (λ (e : made.Expr-F Leaf Tree). chained e.first e.rest) (made.Var v.0)) ∙ ap leaf is in
      let w : variable name ≡ written_leaf (roll-FormOperand (written.Name name)) = sym (fold-roll-FormOperand Leaf Tree form_leaf (λ (e : written.FormExpr-F Leaf Tree). chained e.first e.rest) (written.Name name)) in
      (sym (ap leaf_depth l) ∙ ap leaf_depth w, λ vars room. subst (SoundLeaf vars known) l (omega (arith, known_var.0), known_var.1))
  operand_step is_scope (written.Paren inner) m e =
      let made_so = ap (λ (made' : MadeOperand). made' scope) (fold-roll-FormOperand MadeOperand MadeExpression with_inner joined (written.Paren inner.0)) in
      let x = passed (expression_of inner.0 scope) (λ e. Ok (roll-Operand (made.Paren e))) m (sym made_so ∙ e) in
      let is : roll-Operand (made.Paren x.0) ≡ m = let last = x.2 in cc in
      let l : parentheses (tree_of x.0) ≡ leaf m = sym (fold-roll-Operand Leaf Tree leaf_of (λ (e : made.Expr-F Leaf Tree). chained e.first e.rest) (made.Paren x.0)) ∙ ap leaf is in
      let w : parentheses (form_tree inner.0) ≡ written_leaf (roll-FormOperand (written.Paren inner.0)) = sym (fold-roll-FormOperand Leaf Tree form_leaf (λ (e : written.FormExpr-F Leaf Tree). chained e.first e.rest) (written.Paren inner.0)) in
      let t = inner.1 x.0 x.1 in
      (sym (ap leaf_depth l) ∙ ap (λ n. n + 1) t.0 ∙ ap leaf_depth w, λ vars room. subst (SoundLeaf vars known) l (t.1 vars room))

  expression_step : (x : written.FormExpr-F FormOperand FormExpr) → IsOperand x.first → AllByRecursion (λ (w : Op × FormOperand). IsOperand w.1) x.rest → IsExpression (roll-FormExpr x)
  expression_step x first all m e =
      let parts = ap (λ (made : MadeExpression). made scope) (fold-roll-FormExpr MadeOperand MadeExpression with_inner joined x) ∙ ap (λ rest. joined (record { first = operand_of x.first; rest = rest }) scope) (mapped x.rest) in
      let f = passed (operand_of x.first scope) (λ first. after_each (with_operand scope) [] (made_each x.rest) >>= λ rest. Ok (roll-Expr (record { first = first; rest = rest }))) m (sym parts ∙ e) in
      let r = passed (after_each (with_operand scope) [] (made_each x.rest)) (λ rest. Ok (roll-Expr (record { first = f.0; rest = rest }))) m f.2 in
      let zs = all_made [] x.rest r.0 r.1 in
      let is : roll-Expr (record { first = f.0; rest = r.0 }) ≡ m = let last = r.2 in cc in
      let tree : chained (leaf f.0) (leaves zs.0) ≡ tree_of m = ap (λ rest. chained (leaf f.0) (leaves rest)) (sym zs.1) ∙ sym (tree_of-parts f.0 r.0) ∙ ap tree_of is in
      let written' : chained (written_leaf x.first) (written_leaves x.rest) ≡ form_tree (roll-FormExpr x) =
      sym (fold-roll-FormExpr Leaf Tree form_leaf (λ (e : written.FormExpr-F Leaf Tree). chained e.first e.rest) x ∙ ap (chained (written_leaf x.first)) (written_leaves-mapped x.rest)) in
      let t = chained-made (leaf f.0) (written_leaf x.first) zs.0 x.rest (first f.0 f.1) all zs.2 in
      (sym (ap depth tree) ∙ t.0 ∙ ap depth written', λ vars room. subst (SoundTree vars known) tree (t.1 vars room))

  -- each operand of a layer
  each_operand : (ys : List (Op × ((o : FormOperand) × IsOperand o))) → AllByRecursion (λ (w : Op × FormOperand). IsOperand w.1) (map ((former-FormExpr-rest-at-2).map ((o : FormOperand) × IsOperand o) FormOperand (λ e. e.0)) ys)
  each_operand [] = tt
  each_operand (y ∷ ys) = (y.1.1, each_operand ys)

  expression-sound : IsScope known scope → (e : FormExpr) → IsExpression e
  expression-sound is_scope = ind-FormExpr IsOperand IsExpression
      (λ x y is. subst (λ z. IsOperand (roll-FormOperand z)) is (operand_step is_scope y))
      (λ x y is. expression_step x (subst (λ (z : written.FormExpr-F FormOperand FormExpr). IsOperand z.first) is y.first.1)
      (subst (λ (z : written.FormExpr-F FormOperand FormExpr). AllByRecursion (λ (w : Op × FormOperand). IsOperand w.1) z.rest) is (each_operand y.rest)))

-- a term that is checked
pub term_of-sound : (known : List ℕ) (scope : Scope) (w : FormTerm) (t : Term) → IsScope known scope → IsShallow w → term_of scope w ≡ Ok t → (vars : ℕ) → scope.vars ≤ vars → SoundTerm vars known t
term_of-sound known scope (form_term.Con value) t is_scope shallow e vars room = let same : term.Con value ≡ t = cc in subst (SoundTerm vars known) same tt
term_of-sound known scope (form_term.Name name) t is_scope shallow e vars room =
    let v = passed (bound_to_its_left scope name) (λ var. Ok (term.Var var)) t e in
    let is = variable_of-known known scope name v.0 is_scope (found (variable_of scope name) Unbound v.0 v.1) in
    let same : term.Var v.0 ≡ t = let last = v.2 in cc in
    subst (SoundTerm vars known) same (omega (arith, is.0), is.1)
term_of-sound known scope (form_term.Compute expression) t is_scope shallow e vars room =
    let m = passed (expression_of expression scope) (λ made. Ok (term.Compute made)) t e in
    let same : term.Compute m.0 ≡ t = let last = m.2 in cc in
    let h = expression-sound known scope is_scope expression m.0 m.1 in
    subst (SoundTerm vars known) same (h.1 vars room, omega (arith, h.0, shallow))

pub item_of-sound : (known : List ℕ) (scope : Scope) (w : FormItem) (i : Item) → IsScope known scope → IsShallowItem w → item_of scope w ≡ Ok i → (vars : ℕ) → scope.vars ≤ vars → SoundItem vars known i
item_of-sound known scope (form_item.Put put) i is_scope shallow e vars room =
    let t = passed (term_of scope put) (λ t. Ok (item.Put t)) i e in
    let same : item.Put t.0 ≡ i = let last = t.2 in cc in
    subst (SoundItem vars known) same (term_of-sound known scope put t.0 is_scope shallow t.1 vars room)
item_of-sound known scope form_item.Crlf i is_scope shallow e vars room = let same : item.Crlf ≡ i = cc in subst (SoundItem vars known) same tt
item_of-sound known scope (form_item.Tabto column) i is_scope shallow e vars room = let same : item.Tabto column ≡ i = cc in subst (SoundItem vars known) same tt
item_of-sound known scope (form_item.Rjust width) i is_scope shallow e vars room = let same : item.Rjust width ≡ i = cc in subst (SoundItem vars known) same tt
