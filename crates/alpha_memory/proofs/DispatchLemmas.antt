-- What leads to the stores that let an element in.
use Rattle.std.proofs.Common.{◌≡◌, ℕ, ◌==◌, ◌&&◌, List, [], ◌∷◌, Bool, true, false, Option, None, Some, refl, ap, sym, ◌∙◌}
use Rattle.std.specs.List.{list_all}
use Rattle.std.proofs.lemmas.Bool.{eqb-true}
use Rattle.std.proofs.lemmas.Bool.Decides.{Decides-eqb, Decides-int_eq}
use Rattle.rule_base.specs.declared.value.Value.{Value}
use Rattle.rule_base.specs.declared.value.Value.TheVariants.{Int, Sym}
use Rattle.rule_base.specs.declared.condition.Pred.{Pred}
use Rattle.rule_base.specs.declared.condition.Pred.TheVariants.{Eq, Ne, Lt, Le, Gt, Ge, Same}
use Rattle.rule_base.specs.declared.element.Element.{Element}
use Rattle.rule_base.specs.Value.{same_value}
use Rattle.rule_base.specs.Predicate.{holds}
use Rattle.join_tests.specs.declared.joins.LoneTest.{LoneTest}
use Rattle.join_tests.specs.declared.joins.LoneTest.TheVariants.{Constant, OneOf, Within}
use Rattle.join_tests.specs.declared.joins.Pattern.{Pattern}
use Rattle.join_tests.specs.Reading.{value_at}
use Rattle.join_tests.specs.Joining.{fits, lone_holds, passes}
use Rattle.alpha_memory.specs.declared.dispatch.Dispatch.{Dispatch}
use Rattle.alpha_memory.specs.declared.dispatch.Dispatch.TheVariants.{ByClass, ByValue}
use Rattle.alpha_memory.specs.Dispatch.{by_test, dispatch_at, dispatch_hash, dispatch_of, is_at, or_else, pattern_hash}

same_value-equal : (a b : Value) → same_value a b ≡ true → a ≡ b
same_value-equal (Int a) (Int b) is = ap Int ((Decides-int_eq a b).0 is)
same_value-equal (Sym a) (Sym b) is = ap Sym ((Decides-eqb a b).0 is)
same_value-equal (Int a) (Sym b) is = absurd (let wrong : ⊥ = cc in wrong)
same_value-equal (Sym a) (Int b) is = absurd (let wrong : ⊥ = cc in wrong)

pub both : (a b : Bool) → (a && b) ≡ true → (a ≡ true) × (b ≡ true)
both true b is = (refl, is)
both false b is = absurd (let wrong : ⊥ = cc in wrong)

-- the element has the value that leads to a store
abbrev pub Agrees : Element → Dispatch → Type 0
Agrees e ByClass = Unit {0}
Agrees e (ByValue attribute value) = value_at e attribute ≡ value

agrees_first : (e : Element) (predicate : Pred) (attribute : ℕ) (value : Value) (later : Dispatch) → holds predicate (value_at e attribute) value ≡ true → Agrees e later → Agrees e (or_else (by_test (Constant attribute predicate value)) later)
agrees_first e Eq attribute value later here there = same_value-equal (value_at e attribute) value here
agrees_first e Ne attribute value later here there = there
agrees_first e Lt attribute value later here there = there
agrees_first e Le attribute value later here there = there
agrees_first e Gt attribute value later here there = there
agrees_first e Ge attribute value later here there = there
agrees_first e Same attribute value later here there = there

pub agrees : (e : Element) (tests : List LoneTest) → list_all (lone_holds e) tests ≡ true → Agrees e (dispatch_of tests)
agrees e [] hold = tt
agrees e (Constant attribute predicate value ∷ tests) hold =
    let parts = both (holds predicate (value_at e attribute) value) (list_all (lone_holds e) tests) hold in
    agrees_first e predicate attribute value (dispatch_of tests) parts.0 (agrees e tests parts.1)
agrees e (OneOf attribute among ∷ tests) hold = agrees e tests (both (lone_holds e (OneOf attribute among)) (list_all (lone_holds e) tests) hold).1
agrees e (Within attribute predicate other ∷ tests) hold = agrees e tests (both (lone_holds e (Within attribute predicate other)) (list_all (lone_holds e) tests) hold).1

-- what leads to a store is what the element leads to
leads : (e : Element) (at : Option ℕ) (dispatch : Dispatch) → is_at at dispatch ≡ true → Agrees e dispatch → dispatch ≡ dispatch_at e at
leads e None ByClass is agrees = refl
leads e None (ByValue attribute value) is agrees = absurd (let wrong : ⊥ = cc in wrong)
leads e (Some wanted) ByClass is agrees = absurd (let wrong : ⊥ = cc in wrong)
leads e (Some wanted) (ByValue attribute value) is agrees =
    let same : attribute ≡ wanted = eqb-true attribute wanted is in
    ap (ByValue attribute) (sym agrees) ∙ ap (λ a. ByValue a (value_at e a)) same

pub same_class : (pattern : Pattern) (e : Element) → passes pattern e ≡ true → pattern.class ≡ e.class
same_class pattern e passing =
    let fitting = (both (fits pattern e) (list_all (lone_holds e) pattern.tests) passing).0 in
    eqb-true pattern.class e.class (both (pattern.class == e.class) _ fitting).0

pub same_hash : (pattern : Pattern) (e : Element) (at : Option ℕ) → is_at at (dispatch_of pattern.tests) ≡ true → passes pattern e ≡ true → pattern_hash pattern ≡ dispatch_hash e.class (dispatch_at e at)
same_hash pattern e at is passing =
    let hold = (both (fits pattern e) (list_all (lone_holds e) pattern.tests) passing).1 in
    ap (λ class. dispatch_hash class (dispatch_of pattern.tests)) (same_class pattern e passing)
    ∙ ap (dispatch_hash e.class) (leads e at (dispatch_of pattern.tests) is (agrees e pattern.tests hold))
