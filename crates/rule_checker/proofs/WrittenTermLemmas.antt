-- The values, settings and items that are checked give what the written ones give.
use Rattle.std.proofs.Common.{◌≡◌, ℕ, ◌<◌, true, false, cond, List, [], ◌∷◌, ◌++◌, Some, Result, Ok, Err, map, length, nat_eq, get_or, slice_set, zero, suc, refl, sym, ap, ◌∙◌, subst, arith, append_assoc, append-nil}
use Rattle.std.specs.List.{AllByRecursion, AllZip}
use Rattle.std.proofs.lemmas.List.Quantifiers.{position-Some}
use Rattle.rule_base.specs.declared.value.Value.{Value}
use Rattle.rule_base.specs.declared.value.Value.TheVariants.{Int}
use Rattle.rule_base.specs.declared.expression.Op.{Op}
use Rattle.rule_base.specs.declared.expression.Operand.{Operand, roll-Operand}
use Rattle.rule_base.specs.declared.expression.Expr.{Expr, roll-Expr}
use Rattle.rule_base.specs.declared.expression.Operand.TheOpen as made
use Rattle.rule_base.specs.declared.expression.Operand.TheShapes.{former-Expr-rest-at-2}
use Rattle.rule_base.specs.declared.expression.Operand.TheFolds.{fold-Operand, fold-roll-Operand, fold-roll-Expr}
use Rattle.rule_base.specs.declared.action.Term.{Term}
use Rattle.rule_base.specs.declared.action.Term.TheVariants as term
use Rattle.rule_base.specs.declared.action.Item.{Item}
use Rattle.rule_base.specs.declared.action.Item.TheVariants as item
use Rattle.rule_base.specs.declared.change.Piece.TheVariants as piece
use Rattle.rule_base.specs.declared.entry.FaultCause.{FaultCause}
use Rattle.rule_base.specs.Chains.{◌>>=◌}
use Rattle.rule_base.specs.Expression.{Tree, Leaf, number, variable, parentheses, chained, leaf_of, tree_of}
use Rattle.rule_base.specs.Bindings.{Bindings, value_of}
use Rattle.rule_base.specs.Compute.{applied, number_of, computed, operand_value}
use Rattle.rule_base.specs.Term.{term_value, after_sets, item_piece, item_pieces}
use Rattle.ops_reader.specs.declared.form.FormOperand.{FormOperand, roll-FormOperand, map-FormOperand}
use Rattle.ops_reader.specs.declared.form.FormExpr.{FormExpr, roll-FormExpr}
use Rattle.ops_reader.specs.declared.form.FormOperand.TheOpen as written
use Rattle.ops_reader.specs.declared.form.FormOperand.TheShapes.{former-FormExpr-rest-at-2}
use Rattle.ops_reader.specs.declared.form.FormOperand.TheFolds.{fold-roll-FormOperand, fold-roll-FormExpr, ind-FormExpr}
use Rattle.ops_reader.specs.declared.form.FormTerm.{FormTerm}
use Rattle.ops_reader.specs.declared.form.FormTerm.TheVariants as form_term
use Rattle.ops_reader.specs.declared.form.FormItem.{FormItem}
use Rattle.ops_reader.specs.declared.form.FormItem.TheVariants as form_item
use Rattle.ops_reader.specs.FormTree.{form_leaf, form_tree, operand_leaf}
use Rattle.rule_checker.specs.declared.refusal.CheckKind.TheVariants.{UnknownAttribute, Unbound}
use Rattle.rule_checker.specs.declared.scope.Scope.{Scope}
use Rattle.rule_checker.specs.Names.{number_in}
use Rattle.rule_checker.specs.Walk.{after_each}
use Rattle.rule_checker.specs.Classes.{has_attribute}
use Rattle.rule_checker.specs.Scope.{variable_of, bound_to_its_left}
use Rattle.rule_checker.specs.Expressions.{MadeOperand, MadeExpression, with_inner, with_operand, joined, operand_of, expression_of}
use Rattle.rule_checker.specs.Terms.{term_of, item_of, with_item}
use Rattle.rule_checker.specs.RightSide.{setting_of, with_setting}
use Rattle.rule_checker.specs.NamedBindings.{NamedValues}
use Rattle.rule_checker.specs.WrittenTerms.{variable_value, written_computed, written_operand, written_value, with_attribute_set, after_settings, written_piece, written_pieces}
use Rattle.rule_checker.proofs.ResultLemmas.{passed, found, same_ok}
use Rattle.rule_checker.proofs.ExpressionLemmas.{made_each, mapped}

-- the leaf of an operand of a program, and operators with the leaves of their operands
abbrev leaf : Operand → Leaf
leaf = fold-Operand Leaf Tree leaf_of (λ (e : made.Expr-F Leaf Tree). chained e.first e.rest)

abbrev leaves : List (Op × Operand) → List (Op × Leaf)
leaves [] = []
leaves (next ∷ rest) = (next.0, leaf next.1) ∷ leaves rest

abbrev written_leaves : List (Op × FormOperand) → List (Op × Leaf)
written_leaves [] = []
written_leaves (next ∷ rest) = (next.0, operand_leaf next.1) ∷ written_leaves rest

leaves-mapped : (rest : List (Op × Operand)) → map ((former-Expr-rest-at-2).map Operand Leaf leaf) rest ≡ leaves rest
leaves-mapped [] = refl
leaves-mapped (next ∷ rest) = ap (λ more. (next.0, leaf next.1) ∷ more) (leaves-mapped rest)

written_leaves-mapped : (rest : List (Op × FormOperand)) → map ((former-FormExpr-rest-at-2).map FormOperand Leaf operand_leaf) rest ≡ written_leaves rest
written_leaves-mapped [] = refl
written_leaves-mapped (next ∷ rest) = ap (λ more. (next.0, operand_leaf next.1) ∷ more) (written_leaves-mapped rest)

tree_of-parts : (first : Operand) (rest : List (Op × Operand)) → tree_of (roll-Expr (record { first = first; rest = rest })) ≡ chained (leaf first) (leaves rest)
tree_of-parts first rest = fold-roll-Expr Leaf Tree leaf_of (λ (e : made.Expr-F Leaf Tree). chained e.first e.rest) (record { first = first; rest = rest }) ∙ ap (chained (leaf first)) (leaves-mapped rest)

-- a variable has the same value by its number and by its name
pub record ReadsTheSame (scope : Scope) (bindings : Bindings) (named : NamedValues) : Type 0 where
  pub same : (name var : ℕ) → variable_of scope name ≡ Some var → value_of bindings var ≡ variable_value named name

-- what a walk adds to a list, one for each that is written
pub record Adds {A B E : Type 0} (make : A → Result B E) (done : List B) (written : List A) (all : List B) : Type 0 where
  pub added : List B
  pub more : all ≡ done ++ added
  pub each : AllZip (λ a b. make a ≡ Ok b) written added

pub adds-each : {A B E : Type 0} (make : A → Result B E) (done : List B) (ws : List A) (all : List B) → after_each (λ (so_far : List B) a. make a >>= λ b. Ok (so_far ++ b ∷ [])) done ws ≡ Ok all → Adds make done ws all
adds-each make done [] all e = record { added = []; more = sym (same_ok e) ∙ sym (append-nil done); each = tt }
adds-each {A} {B} {E} make done (w ∷ ws) all e =
    let t = passed (make w >>= λ b. Ok (done ++ b ∷ [])) (λ next. after_each (λ (so_far : List B) a. make a >>= λ b. Ok (so_far ++ b ∷ [])) next ws) all e in
    let b = passed (make w) (λ b. Ok (done ++ b ∷ [])) t.0 t.1 in
    let rest = adds-each make t.0 ws all t.2 in
    record {
      added = b.0 ∷ rest.added;
      more = rest.more ∙ ap (λ (d : List B). d ++ rest.added) (sym (same_ok b.2)) ∙ append_assoc done (b.0 ∷ []) rest.added;
      each = (b.1, rest.each);
    }

-- chains that go on in the same way
pub then-same : {A B E : Type 0} (o : Result A E) (f g : A → Result B E) → ((a : A) → f a ≡ g a) → (o >>= f) ≡ (o >>= g)
then-same (Ok a) f g same = same a
then-same (Err e) f g same = refl

-- an attribute that is set, by its number and by its name
set-found : (name : ℕ) (names : List ℕ) (values : List Value) (i : ℕ) (v : Value) → i < length names → nat_eq name (get_or names i 0) ≡ true → ((k : ℕ) → k < i → nat_eq name (get_or names k 0) ≡ false)
    → slice_set values i v ≡ with_attribute_set names name v values
set-found name [] values i v within passes earlier = absurd (omega arith)
set-found name (n ∷ names) [] i v within passes earlier = refl
set-found name (n ∷ names) (x ∷ values) zero v within passes earlier = ap (λ b. cond b (v ∷ values) (x ∷ with_attribute_set names name v values)) (sym passes)
set-found name (n ∷ names) (x ∷ values) (suc i) v within passes earlier =
    let first : nat_eq name n ≡ false = earlier 0 (omega arith) in
    ap (λ vs. x ∷ vs) (set-found name names values i v (omega arith) passes (λ k below. earlier (suc k) (omega arith)))
    ∙ ap (λ b. cond b (v ∷ values) (x ∷ with_attribute_set names name v values)) (sym first)

pub set-named : (name : ℕ) (names : List ℕ) (values : List Value) (i : ℕ) (v : Value) → number_in names name ≡ Some i → slice_set values i v ≡ with_attribute_set names name v values
set-named name names values i v is =
    let place = position-Some (nat_eq name) names i 0 is in
    set-found name names values i v place.0 place.1 place.2

module _ (scope : Scope) (bindings : Bindings) (named : NamedValues) where
  -- leaves and trees that give the same
  abbrev IsLeaf : Leaf → Leaf → Type 0
  IsLeaf l w = operand_value l bindings ≡ written_operand w named

  abbrev IsTree : Tree → Tree → Type 0
  IsTree t w = computed t bindings ≡ written_computed w named

  -- what an operand, and an expression, is made to
  abbrev IsOperand : FormOperand → Type 0
  IsOperand o = (m : Operand) → operand_of o scope ≡ Ok m → IsLeaf (leaf m) (operand_leaf o)

  abbrev IsExpression : FormExpr → Type 0
  IsExpression e = (m : Expr) → expression_of e scope ≡ Ok m → IsTree (tree_of m) (form_tree e)

  -- operands that are made one by one, behind the same operators
  abbrev AreMade : List (Op × Operand) → List (Op × FormOperand) → Type 0
  AreMade [] [] = Unit {0}
  AreMade [] (x ∷ xs) = ⊥
  AreMade (z ∷ zs) [] = ⊥
  AreMade (z ∷ zs) (x ∷ xs) = (z.0 ≡ x.0) × (operand_of x.1 scope ≡ Ok z.1) × AreMade zs xs

  all_made : (done : List (Op × Operand)) (xs : List (Op × FormOperand)) (rest : List (Op × Operand)) → after_each (with_operand scope) done (made_each xs) ≡ Ok rest → (zs : List (Op × Operand)) × (rest ≡ done ++ zs) × AreMade zs xs
  all_made done [] rest e = ([], (let same : done ≡ rest = cc in sym (append-nil done ∙ same)), tt)
  all_made done (x ∷ xs) rest e =
      let w = passed (with_operand scope done (x.0, operand_of x.1)) (λ next. after_each (with_operand scope) next (made_each xs)) rest e in
      let o = passed (operand_of x.1 scope) (λ operand. Ok (done ++ (x.0, operand) ∷ [])) w.0 w.1 in
      let next : done ++ (x.0, o.0) ∷ [] ≡ w.0 = let last = o.2 in cc in
      let more = all_made w.0 xs rest w.2 in
      ((x.0, o.0) ∷ more.0, more.1 ∙ ap (λ (d : List (Op × Operand)). d ++ more.0) (sym next) ∙ append_assoc done ((x.0, o.0) ∷ []) more.0, (refl, o.1, more.2))

  -- the tree of operands that are made
  chained-made : (l w : Leaf) (zs : List (Op × Operand)) (xs : List (Op × FormOperand)) → IsLeaf l w → AllByRecursion (λ (x : Op × FormOperand). IsOperand x.1) xs → AreMade zs xs → IsTree (chained l (leaves zs)) (chained w (written_leaves xs))
  chained-made l w [] [] h all are = h
  chained-made l w [] (x ∷ xs) h all are = absurd are
  chained-made l w (z ∷ zs) [] h all are = absurd are
  chained-made l w (z ∷ zs) (x ∷ xs) h all are =
      let rest = chained-made (leaf z.1) (operand_leaf x.1) zs xs (all.0 z.1 are.1) all.1 are.2 in
      ap (λ (o : Result _ FaultCause). o >>= λ right. operand_value l bindings >>= λ left. applied z.0 left right) rest
      ∙ ap (λ (o : Result _ FaultCause). written_computed (chained (operand_leaf x.1) (written_leaves xs)) named >>= λ right. o >>= λ left. applied z.0 left right) h
      ∙ ap (λ (op : Op). written_computed (chained (operand_leaf x.1) (written_leaves xs)) named >>= λ right. written_operand w named >>= λ left. applied op left right) are.0

  -- one layer of an operand
  operand_step : ReadsTheSame scope bindings named → (y : written.FormOperand-F ((o : FormOperand) × IsOperand o) ((e : FormExpr) × IsExpression e))
      → IsOperand (roll-FormOperand (map-FormOperand ((o : FormOperand) × IsOperand o) ((e : FormExpr) × IsExpression e) FormOperand FormExpr (λ e. e.0) (λ e. e.0) y))
  operand_step reads (written.Num z) m e =
      let is : roll-Operand (made.Num z) ≡ m = let given = e in let first = fold-roll-FormOperand MadeOperand MadeExpression with_inner joined (written.Num z) in let at = ap (λ (made' : MadeOperand). made' scope) first in cc in
      let l : number z ≡ leaf m = sym (fold-roll-Operand Leaf Tree leaf_of (λ (e : made.Expr-F Leaf Tree). chained e.first e.rest) (made.Num z)) ∙ ap leaf is in
      let w : number z ≡ operand_leaf (roll-FormOperand (written.Num z)) = sym (fold-roll-FormOperand Leaf Tree form_leaf (λ (e : written.FormExpr-F Leaf Tree). chained e.first e.rest) (written.Num z)) in
      sym (ap (λ (x : Leaf). operand_value x bindings) l) ∙ ap (λ (x : Leaf). written_operand x named) w
  operand_step reads (written.Name name) m e =
      let made_so = ap (λ (made' : MadeOperand). made' scope) (fold-roll-FormOperand MadeOperand MadeExpression with_inner joined (written.Name name)) in
      let v = passed (bound_to_its_left scope name) (λ var. Ok (roll-Operand (made.Var var))) m (sym made_so ∙ e) in
      let same = reads.same name v.0 (found (variable_of scope name) Unbound v.0 v.1) in
      let is : roll-Operand (made.Var v.0) ≡ m = let last = v.2 in cc in
      let l : variable v.0 ≡ leaf m = sym (fold-roll-Operand Leaf Tree leaf_of (λ (e : made.Expr-F Leaf Tree). chained e.first e.rest) (made.Var v.0)) ∙ ap leaf is in
      let w : variable name ≡ operand_leaf (roll-FormOperand (written.Name name)) = sym (fold-roll-FormOperand Leaf Tree form_leaf (λ (e : written.FormExpr-F Leaf Tree). chained e.first e.rest) (written.Name name)) in
      sym (ap (λ (x : Leaf). operand_value x bindings) l) ∙ ap number_of same ∙ ap (λ (x : Leaf). written_operand x named) w
  operand_step reads (written.Paren inner) m e =
      let made_so = ap (λ (made' : MadeOperand). made' scope) (fold-roll-FormOperand MadeOperand MadeExpression with_inner joined (written.Paren inner.0)) in
      let x = passed (expression_of inner.0 scope) (λ e. Ok (roll-Operand (made.Paren e))) m (sym made_so ∙ e) in
      let is : roll-Operand (made.Paren x.0) ≡ m = let last = x.2 in cc in
      let l : parentheses (tree_of x.0) ≡ leaf m = sym (fold-roll-Operand Leaf Tree leaf_of (λ (e : made.Expr-F Leaf Tree). chained e.first e.rest) (made.Paren x.0)) ∙ ap leaf is in
      let w : parentheses (form_tree inner.0) ≡ operand_leaf (roll-FormOperand (written.Paren inner.0)) = sym (fold-roll-FormOperand Leaf Tree form_leaf (λ (e : written.FormExpr-F Leaf Tree). chained e.first e.rest) (written.Paren inner.0)) in
      sym (ap (λ (y : Leaf). operand_value y bindings) l) ∙ inner.1 x.0 x.1 ∙ ap (λ (y : Leaf). written_operand y named) w

  expression_step : (x : written.FormExpr-F FormOperand FormExpr) → IsOperand x.first → AllByRecursion (λ (w : Op × FormOperand). IsOperand w.1) x.rest → IsExpression (roll-FormExpr x)
  expression_step x first all m e =
      let parts = ap (λ (made : MadeExpression). made scope) (fold-roll-FormExpr MadeOperand MadeExpression with_inner joined x) ∙ ap (λ rest. joined (record { first = operand_of x.first; rest = rest }) scope) (mapped x.rest) in
      let f = passed (operand_of x.first scope) (λ first. after_each (with_operand scope) [] (made_each x.rest) >>= λ rest. Ok (roll-Expr (record { first = first; rest = rest }))) m (sym parts ∙ e) in
      let r = passed (after_each (with_operand scope) [] (made_each x.rest)) (λ rest. Ok (roll-Expr (record { first = f.0; rest = rest }))) m f.2 in
      let zs = all_made [] x.rest r.0 r.1 in
      let is : roll-Expr (record { first = f.0; rest = r.0 }) ≡ m = let last = r.2 in cc in
      let tree : chained (leaf f.0) (leaves zs.0) ≡ tree_of m = ap (λ rest. chained (leaf f.0) (leaves rest)) (sym zs.1) ∙ sym (tree_of-parts f.0 r.0) ∙ ap tree_of is in
      let written' : chained (operand_leaf x.first) (written_leaves x.rest) ≡ form_tree (roll-FormExpr x) =
      sym (fold-roll-FormExpr Leaf Tree form_leaf (λ (e : written.FormExpr-F Leaf Tree). chained e.first e.rest) x ∙ ap (chained (operand_leaf x.first)) (written_leaves-mapped x.rest)) in
      sym (ap (λ (t : Tree). computed t bindings) tree) ∙ chained-made (leaf f.0) (operand_leaf x.first) zs.0 x.rest (first f.0 f.1) all zs.2 ∙ ap (λ (t : Tree). written_computed t named) written'

  -- each operand of a layer
  each_operand : (ys : List (Op × ((o : FormOperand) × IsOperand o))) → AllByRecursion (λ (w : Op × FormOperand). IsOperand w.1) (map ((former-FormExpr-rest-at-2).map ((o : FormOperand) × IsOperand o) FormOperand (λ e. e.0)) ys)
  each_operand [] = tt
  each_operand (y ∷ ys) = (y.1.1, each_operand ys)

  expression-gives : ReadsTheSame scope bindings named → (e : FormExpr) → IsExpression e
  expression-gives reads = ind-FormExpr IsOperand IsExpression
      (λ x y is. subst (λ z. IsOperand (roll-FormOperand z)) is (operand_step reads y))
      (λ x y is. expression_step x (subst (λ (z : written.FormExpr-F FormOperand FormExpr). IsOperand z.first) is y.first.1)
      (subst (λ (z : written.FormExpr-F FormOperand FormExpr). AllByRecursion (λ (w : Op × FormOperand). IsOperand w.1) z.rest) is (each_operand y.rest)))

  -- a term gives what the written value gives
  pub term-gives : ReadsTheSame scope bindings named → (w : FormTerm) (t : Term) → term_of scope w ≡ Ok t → term_value bindings t ≡ written_value named w
  term-gives reads (form_term.Con value) t e = ap (term_value bindings) (sym (same_ok e))
  term-gives reads (form_term.Name name) t e =
      let v = passed (bound_to_its_left scope name) (λ var. Ok (term.Var var)) t e in
      ap (term_value bindings) (sym (same_ok v.2)) ∙ ap (λ (x : Value). Ok x) (reads.same name v.0 (found (variable_of scope name) Unbound v.0 v.1))
  term-gives reads (form_term.Compute expression) t e =
      let m = passed (expression_of expression scope) (λ made. Ok (term.Compute made)) t e in
      ap (term_value bindings) (sym (same_ok m.2)) ∙ ap (λ (o : Result _ FaultCause). o >>= λ z. Ok (Int z)) (expression-gives reads expression m.0 m.1)

  -- settings
  settings-give : ReadsTheSame scope bindings named → (attrs : List ℕ) (ws : List (ℕ × FormTerm)) (sets : List (ℕ × Term)) (values : List Value) → AllZip (λ w set. setting_of attrs scope w ≡ Ok set) ws sets
      → after_sets bindings sets values ≡ after_settings attrs named ws values
  settings-give reads attrs [] [] values h = refl
  settings-give reads attrs [] (set ∷ sets) values h = absurd h
  settings-give reads attrs (w ∷ ws) [] values h = absurd h
  settings-give reads attrs (w ∷ ws) (set ∷ sets) values h =
      let a = passed (has_attribute attrs w.0) (λ attr. term_of scope w.1 >>= λ t. Ok (attr, t)) set h.0 in
      let t = passed (term_of scope w.1) (λ t. Ok (a.0, t)) set a.2 in
      let same : (a.0, t.0) ≡ set = same_ok t.2 in
      let is = found (number_in attrs w.0) UnknownAttribute a.0 a.1 in
      let gives = ap (term_value bindings) (ap (λ (x : ℕ × Term). x.1) (sym same)) ∙ term-gives reads w.1 t.0 t.1 in
      ap (λ (o : Result Value FaultCause). o >>= λ value. after_sets bindings sets (slice_set values set.0 value)) gives
      ∙ then-same (written_value named w.1) (λ value. after_sets bindings sets (slice_set values set.0 value)) (λ value. after_settings attrs named ws (with_attribute_set attrs w.0 value values))
      (λ value. settings-give reads attrs ws sets (slice_set values set.0 value) h.1
      ∙ ap (after_settings attrs named ws) (ap (λ (x : ℕ × Term). slice_set values x.0 value) (sym same) ∙ set-named w.0 attrs values a.0 value is))

  pub written_settings-give : ReadsTheSame scope bindings named → (attrs : List ℕ) (ws : List (ℕ × FormTerm)) (sets : List (ℕ × Term)) (values : List Value) → after_each (with_setting attrs scope) [] ws ≡ Ok sets
      → after_sets bindings sets values ≡ after_settings attrs named ws values
  written_settings-give reads attrs ws sets values e =
      let a = adds-each (setting_of attrs scope) [] ws sets e in
      ap (λ (all : List (ℕ × Term)). after_sets bindings all values) a.more ∙ settings-give reads attrs ws a.added values a.each

  -- items
  item-gives : ReadsTheSame scope bindings named → (w : FormItem) (i : Item) → item_of scope w ≡ Ok i → item_piece bindings i ≡ written_piece named w
  item-gives reads (form_item.Put put) i e =
      let t = passed (term_of scope put) (λ t. Ok (item.Put t)) i e in
      ap (item_piece bindings) (sym (same_ok t.2)) ∙ ap (λ (o : Result Value FaultCause). o >>= λ value. Ok (piece.Put value)) (term-gives reads put t.0 t.1)
  item-gives reads form_item.Crlf i e = ap (item_piece bindings) (sym (same_ok e))
  item-gives reads (form_item.Tabto column) i e = ap (item_piece bindings) (sym (same_ok e))
  item-gives reads (form_item.Rjust width) i e = ap (item_piece bindings) (sym (same_ok e))

  items-give : ReadsTheSame scope bindings named → (ws : List FormItem) (items : List Item) → AllZip (λ w i. item_of scope w ≡ Ok i) ws items → item_pieces bindings items ≡ written_pieces named ws
  items-give reads [] [] h = refl
  items-give reads [] (i ∷ items) h = absurd h
  items-give reads (w ∷ ws) [] h = absurd h
  items-give reads (w ∷ ws) (i ∷ items) h =
      let first = item-gives reads w i h.0 in
      let rest = items-give reads ws items h.1 in
      rw (first, rest) refl

  pub written_items-give : ReadsTheSame scope bindings named → (ws : List FormItem) (items : List Item) → after_each (with_item scope) [] ws ≡ Ok items → item_pieces bindings items ≡ written_pieces named ws
  written_items-give reads ws items e =
      let a = adds-each (item_of scope) [] ws items e in
      ap (item_pieces bindings) a.more ∙ items-give reads ws a.added a.each
