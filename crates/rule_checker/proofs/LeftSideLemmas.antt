-- The condition elements of a rule that is checked are sound: one at a time.
use Rattle.std.proofs.Common.{◌≡◌, ℕ, ◌≤◌, ◌<◌, Bool, true, false, not, ◌&&◌, cond, List, [], ◌∷◌, ◌++◌, Option, None, Some, Ok, length, map, filter, nat_eq, nat_le, slice_get, slice_index, refl, sym, ap, ◌∙◌, subst, arith, length-append, append-nil}
use Rattle.std.specs.List.{AllByRecursion, IsDistinct, flat_map}
use Rattle.std.proofs.lemmas.Grind.{flat_map-append}
use Rattle.std.proofs.lemmas.Bool.Decides.{nat_tests}
use Rattle.std.proofs.lemmas.Option.{slice_get_within, get_or_from_slice_get}
use Rattle.rule_base.specs.declared.condition.Test.{Test}
use Rattle.rule_base.specs.declared.condition.Cond.{Cond}
use Rattle.rule_base.specs.declared.program.Class.{Class}
use Rattle.rule_base.specs.Chains.{◌>>=◌}
use Rattle.rule_base.specs.Sound.{sizes_of, SoundTests, SoundConds, known_after_cond, known_after_conds, bound_by_test, bound_variables, begins_positive, positive_classes}
use Rattle.ops_reader.specs.declared.form.FormCond.{FormCond}
use Rattle.rule_checker.specs.declared.refusal.CheckKind.TheVariants.{FirstNegated, TooMany}
use Rattle.rule_checker.specs.declared.scope.Scope.{Scope}
use Rattle.rule_checker.specs.declared.condition_tests.TestsSoFar.{TestsSoFar}
use Rattle.rule_checker.specs.declared.left_side.Elements.{Elements}
use Rattle.rule_checker.specs.declared.left_side.LeftSide.{LeftSide}
use Rattle.rule_checker.specs.Walk.{after_each}
use Rattle.rule_checker.specs.Classes.{declared_class, attributes_at}
use Rattle.rule_checker.specs.Scope.{behind}
use Rattle.rule_checker.specs.ConditionTests.{with_tests, tests_of}
use Rattle.rule_checker.specs.LeftSide.{few_conditions, first_is_positive, new_element_variable, with_element, elements_after, with_pattern, with_cond, no_conditions, left_side}
use Rattle.rule_checker.proofs.ListLemmas.{all_push, all_map}
use Rattle.rule_checker.proofs.ResultLemmas.{passed, kept, after_each-keeps}
use Rattle.rule_checker.proofs.ScopeLemmas.{AreKnown, AreKnown-more}
use Rattle.rule_checker.proofs.TestLemmas.{AreTests, with_tests-keeps}
use Rattle.rule_checker.proofs.ClassLemmas.{declared_class-size}

-- what holds of the condition elements of a rule so far
pub record IsLeftSide (sizes : List ℕ) (left : LeftSide) : Type 0 where
  pub few : length left.conds ≤ 32
  pub begins : 0 < length left.conds → begins_positive left.conds ≡ true
  pub bound_once : IsDistinct nat_eq (bound_variables left.conds)
  pub numbered : AllByRecursion (λ n. n < left.scope.vars) (bound_variables left.conds)
  pub valued : AreKnown left.scope.vars (known_after_conds [] left.conds) left.scope.bound
  pub outside : left.scope.local ≡ []
  pub sound : (vars : ℕ) → left.scope.vars ≤ vars → SoundConds sizes vars [] left.conds
  pub elements : left.elements.classes ≡ positive_classes left.conds
  pub places : AllByRecursion (λ (e : ℕ × ℕ). e.1 < length left.elements.classes) left.elements.names

-- one condition element more at the end
SoundConds-push : (sizes : List ℕ) (vars : ℕ) (known : List ℕ) (cs : List Cond) (c : Cond) → SoundConds sizes vars known cs → c.class < length sizes → SoundTests (slice_index sizes c.class) vars (known_after_conds known cs) c.tests → SoundConds sizes vars known (cs ++ c ∷ [])
SoundConds-push sizes vars known [] c h within tests = (within, tests, tt)
SoundConds-push sizes vars known (first ∷ cs) c h within tests = (h.0, h.1, SoundConds-push sizes vars (known_after_cond first.negated known first.tests) cs c h.2 within tests)

known_after_conds-push : (known : List ℕ) (cs : List Cond) (c : Cond) → known_after_conds known (cs ++ c ∷ []) ≡ known_after_cond c.negated (known_after_conds known cs) c.tests
known_after_conds-push known [] c = refl
known_after_conds-push known (first ∷ cs) c = known_after_conds-push (known_after_cond first.negated known first.tests) cs c

-- the positive ones, with one more
positive_classes-push : (cs : List Cond) (c : Cond) → positive_classes (cs ++ c ∷ []) ≡ positive_classes cs ++ positive_classes (c ∷ [])
positive_classes-push [] c = refl
positive_classes-push (first ∷ cs) c = by first.negated (positive_classes-push cs c)
  where
    rest : List Cond → List ℕ
    rest ds = map (λ (d : Cond). d.class) (filter (λ (d : Cond). not d.negated) ds)

    by : (b : Bool) → rest (cs ++ c ∷ []) ≡ rest cs ++ rest (c ∷ [])
        → map (λ (d : Cond). d.class) (cond (not b) (first ∷ filter (λ (d : Cond). not d.negated) (cs ++ c ∷ [])) (filter (λ (d : Cond). not d.negated) (cs ++ c ∷ [])))
        ≡ map (λ (d : Cond). d.class) (cond (not b) (first ∷ filter (λ (d : Cond). not d.negated) cs) (filter (λ (d : Cond). not d.negated) cs)) ++ rest (c ∷ [])
    by true same = same
    by false same = ap (λ ns. first.class ∷ ns) same

-- a first condition element stays the first
begins-push : (cs : List Cond) (c : Cond) → (0 < length cs → begins_positive cs ≡ true) → (nat_eq (length cs) 0 && c.negated) ≡ false → begins_positive (cs ++ c ∷ []) ≡ true
begins-push [] c h first = by c.negated first
  where
    by : (b : Bool) → (true && b) ≡ false → not b ≡ true
    by true e = absurd (cc)
    by false e = refl
begins-push (d ∷ cs) c h first = h (omega arith)

-- what holds of elements
pub record AreElements (elements : Elements) : Type 0 where
  pub places : AllByRecursion (λ (e : ℕ × ℕ). e.1 < length elements.classes) elements.names

-- the elements with one more, by the classes of positive condition elements
pub record AreElementsAfter (before : Elements) (negated : Bool) (class : ℕ) (tests : List Test) (after : Elements) : Type 0 where
  pub classes : after.classes ≡ before.classes ++ positive_classes (record { negated = negated; class = class; tests = tests } ∷ [])
  pub places : AllByRecursion (λ (e : ℕ × ℕ). e.1 < length after.classes) after.names

more_places : (classes : List ℕ) (class : ℕ) (names : List (ℕ × ℕ)) → AllByRecursion (λ (e : ℕ × ℕ). e.1 < length classes) names → AllByRecursion (λ (e : ℕ × ℕ). e.1 < length (classes ++ class ∷ [])) names
more_places classes class names h = all_map _ _ (λ (e : ℕ × ℕ) lt. omega (arith, length-append classes (class ∷ []))) names h

with_element-keeps : (elements : Elements) (class : ℕ) (tests : List Test) (named : Option ℕ) (next : Elements) → AllByRecursion (λ (e : ℕ × ℕ). e.1 < length elements.classes) elements.names
    → with_element elements class named ≡ Ok next → AreElementsAfter elements false class tests next
with_element-keeps elements class tests None next h e =
    let same : record elements { classes = elements.classes ++ class ∷ [] } ≡ next = cc in
    subst (AreElementsAfter elements false class tests) same (record { classes = refl; places = more_places elements.classes class elements.names h })
with_element-keeps elements class tests (Some name) next h e =
    let w = passed (new_element_variable elements name) (λ _. Ok (record { classes = elements.classes ++ class ∷ []; names = elements.names ++ (name, length elements.classes) ∷ [] })) next e in
    let after : Elements = record { classes = elements.classes ++ class ∷ []; names = elements.names ++ (name, length elements.classes) ∷ [] } in
    let same : after ≡ next = let last = w.2 in cc in
    subst (AreElementsAfter elements false class tests) same (record {
      classes = refl;
      places = all_push _ elements.names (name, length elements.classes) (more_places elements.classes class elements.names h) (omega (arith, length-append elements.classes (class ∷ [])));
    })

elements_after-keeps : (elements : Elements) (negated : Bool) (class : ℕ) (tests : List Test) (named : Option ℕ) (next : Elements) → AllByRecursion (λ (e : ℕ × ℕ). e.1 < length elements.classes) elements.names
    → elements_after elements negated class named ≡ Ok next → AreElementsAfter elements negated class tests next
elements_after-keeps elements true class tests named next h e =
    let same : elements ≡ next = cc in
    subst (AreElementsAfter elements true class tests) same (record { classes = sym (append-nil elements.classes); places = h })
elements_after-keeps elements false class tests named next h e = with_element-keeps elements class tests named next h e

-- the variables behind a condition element
behind-known : (size : ℕ) (negated : Bool) (before : Scope) (earlier known : List ℕ) (done : TestsSoFar) → AreTests size negated before earlier known done → AreKnown before.vars known before.bound
    → AreKnown done.scope.vars (known_after_cond negated known done.tests) done.scope.bound
behind-known size true before earlier known done h valued = subst (AreKnown done.scope.vars known) (sym (h.kept refl)) (AreKnown-more before.vars done.scope.vars known before.bound h.grown valued)
behind-known size false before earlier known done h valued = h.scope.bound

-- one condition element more, with tests and elements that were checked
pattern-keeps : (sizes : List ℕ) (size class : ℕ) (negated : Bool) (left : LeftSide) (done : TestsSoFar) (elements : Elements) → IsLeftSide sizes left → length left.conds < 32 → (nat_eq (length left.conds) 0 && negated) ≡ false
    → slice_get sizes class ≡ Some size → AreTests size negated left.scope (bound_variables left.conds) (known_after_conds [] left.conds) done → AreElementsAfter left.elements negated class done.tests elements
    → IsLeftSide sizes (record { conds = left.conds ++ record { negated = negated; class = class; tests = done.tests } ∷ []; scope = behind done.scope; elements = elements })
pattern-keeps sizes size class negated left done elements h room first at tests after =
    let c : Cond = record { negated = negated; class = class; tests = done.tests } in
    let bound : bound_variables (left.conds ++ c ∷ []) ≡ bound_variables left.conds ++ flat_map bound_by_test done.tests =
    flat_map-append (λ (d : Cond). flat_map bound_by_test d.tests) left.conds (c ∷ []) ∙ ap (λ (ns : List ℕ). bound_variables left.conds ++ ns) (append-nil (flat_map bound_by_test done.tests)) in
    let size_is : slice_index sizes class ≡ size = get_or_from_slice_get sizes class size 0 at in
    record {
      few = omega (arith, length-append left.conds (c ∷ []));
      begins = λ some. begins-push left.conds c h.begins first;
      bound_once = rw bound tests.bound_once;
      numbered = rw bound tests.numbered;
      valued = subst (λ (ns : List ℕ). AreKnown done.scope.vars ns done.scope.bound) (sym (known_after_conds-push [] left.conds c)) (behind-known size negated left.scope (bound_variables left.conds) (known_after_conds [] left.conds) done tests h.valued);
      outside = refl;
      sound = λ vars more. SoundConds-push sizes vars [] left.conds c (h.sound vars (omega (arith, tests.grown))) (slice_get_within sizes class size at)
          (subst (λ (n : ℕ). SoundTests n vars (known_after_conds [] left.conds) done.tests) (sym size_is) (tests.sound vars more));
      elements = after.classes ∙ ap (λ (ns : List ℕ). ns ++ positive_classes (c ∷ [])) h.elements ∙ sym (positive_classes-push left.conds c);
      places = after.places;
    }

pub nat_le-false : (a b : ℕ) → nat_le a b ≡ false → b < a
nat_le-false a b e = grind (arith, nat_tests)

-- the rules inside a condition element
with_pattern-keeps : (sizes attrs : List ℕ) (class : ℕ) (left : LeftSide) (cond : FormCond) (next : LeftSide) → IsLeftSide sizes left → length left.conds < 32 → (nat_eq (length left.conds) 0 && cond.negated) ≡ false
    → slice_get sizes class ≡ Some (length attrs) → with_pattern class attrs left cond ≡ Ok next → IsLeftSide sizes next
with_pattern-keeps sizes attrs class left cond next h room first at e =
    let t = passed (tests_of left.scope cond.negated attrs cond.tests) (λ (done : TestsSoFar). elements_after left.elements cond.negated class cond.named >>= λ elements.
    Ok (record { conds = left.conds ++ record { negated = cond.negated; class = class; tests = done.tests } ∷ []; scope = behind done.scope; elements = elements })) next e in
    let done = t.0 in
    let m = passed (elements_after left.elements cond.negated class cond.named) (λ elements. Ok (record { conds = left.conds ++ record { negated = cond.negated; class = class; tests = done.tests } ∷ []; scope = behind done.scope; elements = elements })) next t.2 in
    let known = known_after_conds [] left.conds in
    let earlier = bound_variables left.conds in
    let start : AreTests (length attrs) cond.negated left.scope earlier known (record { tests = []; scope = left.scope }) = record {
      grown = omega arith;
      kept = λ is. refl;
      bound_once = rw (append-nil earlier) h.bound_once;
      numbered = rw (append-nil earlier) h.numbered;
      scope = record { bound = h.valued; local = subst (AreKnown left.scope.vars known) (sym h.outside) tt };
      sound = λ vars more. tt;
    } in
    let tests = after_each-keeps (AreTests (length attrs) cond.negated left.scope earlier known) (with_tests cond.negated attrs) (with_tests-keeps attrs cond.negated left.scope earlier known) (record { tests = []; scope = left.scope }) cond.tests done start t.1 in
    let elements = elements_after-keeps left.elements cond.negated class done.tests cond.named m.0 h.places m.1 in
    let after : LeftSide = record { conds = left.conds ++ record { negated = cond.negated; class = class; tests = done.tests } ∷ []; scope = behind done.scope; elements = m.0 } in
    let same : after ≡ next = let last = m.2 in cc in
    subst (IsLeftSide sizes) same (pattern-keeps sizes (length attrs) class cond.negated left done m.0 h room first at tests elements)

-- a written condition element more
with_cond-keeps : (classes : List Class) (left : LeftSide) (cond : FormCond) (next : LeftSide) → IsLeftSide (sizes_of classes) left → with_cond classes left cond ≡ Ok next → IsLeftSide (sizes_of classes) next
with_cond-keeps classes left cond next h e =
    let few = passed (few_conditions left) (λ _. first_is_positive left cond.negated >>= λ _. declared_class classes cond.class >>= λ class. with_pattern class (attributes_at classes class) left cond) next e in
    let first = passed (first_is_positive left cond.negated) (λ _. declared_class classes cond.class >>= λ class. with_pattern class (attributes_at classes class) left cond) next few.2 in
    let c = passed (declared_class classes cond.class) (λ class. with_pattern class (attributes_at classes class) left cond) next first.2 in
    with_pattern-keeps (sizes_of classes) (attributes_at classes c.0) c.0 left cond next h (nat_le-false 32 (length left.conds) (kept _ TooMany few.0 few.1)) (kept _ FirstNegated first.0 first.1) (declared_class-size classes cond.class c.0 c.1) c.2

nothing_twice : IsDistinct nat_eq []
unfolding IsDistinct
nothing_twice = tt

-- a left-hand side that is checked
pub left_side-sound : (classes : List Class) (conds : List FormCond) (left : LeftSide) → left_side classes conds ≡ Ok left → IsLeftSide (sizes_of classes) left
left_side-sound classes conds left e =
    let start : IsLeftSide (sizes_of classes) no_conditions = record {
      few = omega arith;
      begins = λ some. absurd (omega arith);
      bound_once = nothing_twice;
      numbered = tt;
      valued = tt;
      outside = refl;
      sound = λ vars more. tt;
      elements = refl;
      places = tt;
    } in
    after_each-keeps (IsLeftSide (sizes_of classes)) (with_cond classes) (with_cond-keeps classes) no_conditions conds left start e

-- where there is a condition element to be checked, there is one that is checked
with_cond-longer : (classes : List Class) (left : LeftSide) (cond : FormCond) (next : LeftSide) → with_cond classes left cond ≡ Ok next → 0 < length next.conds
with_cond-longer classes left cond next e =
    let few = passed (few_conditions left) (λ _. first_is_positive left cond.negated >>= λ _. declared_class classes cond.class >>= λ class. with_pattern class (attributes_at classes class) left cond) next e in
    let first = passed (first_is_positive left cond.negated) (λ _. declared_class classes cond.class >>= λ class. with_pattern class (attributes_at classes class) left cond) next few.2 in
    let c = passed (declared_class classes cond.class) (λ class. with_pattern class (attributes_at classes class) left cond) next first.2 in
    let t = passed (tests_of left.scope cond.negated (attributes_at classes c.0) cond.tests) (λ (done : TestsSoFar). elements_after left.elements cond.negated c.0 cond.named >>= λ elements.
    Ok (record { conds = left.conds ++ record { negated = cond.negated; class = c.0; tests = done.tests } ∷ []; scope = behind done.scope; elements = elements })) next c.2 in
    let m = passed (elements_after left.elements cond.negated c.0 cond.named) (λ elements. Ok (record { conds = left.conds ++ record { negated = cond.negated; class = c.0; tests = t.0.tests } ∷ []; scope = behind t.0.scope; elements = elements })) next t.2 in
    let after : LeftSide = record { conds = left.conds ++ record { negated = cond.negated; class = c.0; tests = t.0.tests } ∷ []; scope = behind t.0.scope; elements = m.0 } in
    let same : after ≡ next = let last = m.2 in cc in
    omega (arith, ap (λ (l : LeftSide). length l.conds) same, length-append left.conds (record { negated = cond.negated; class = c.0; tests = t.0.tests } ∷ []))

pub left_side-begins : (classes : List Class) (conds : List FormCond) (left : LeftSide) → 0 < length conds → left_side classes conds ≡ Ok left → 0 < length left.conds
left_side-begins classes [] left some e = absurd (omega arith)
left_side-begins classes (cond ∷ conds) left some e =
    let w = passed (with_cond classes no_conditions cond) (λ next. after_each (with_cond classes) next conds) left e in
    after_each-keeps (λ (l : LeftSide). 0 < length l.conds) (with_cond classes) (λ l c next h is. with_cond-longer classes l c next is) w.0 conds left (with_cond-longer classes no_conditions cond w.0 w.1) w.2
