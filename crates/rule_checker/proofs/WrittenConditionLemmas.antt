-- The condition elements of a rule ask what is written: one at a time, and then from left to right.
use Rattle.std.proofs.Common.{◌≡◌, ℕ, ◌≤◌, Bool, true, false, ◌==◌, List, [], ◌∷◌, ◌++◌, Option, None, Some, option_map, option_and_then, Ok, length, nat_eq, replicate, slice_get, get_or, refl, sym, ap, ◌∙◌, subst, arith, append_assoc, append-nil}
use Rattle.std.specs.Option.{option_map_or, option_or}
use Rattle.std.specs.List.{zip}
use Rattle.std.proofs.lemmas.List.Quantifiers.{position-Some}
use Rattle.std.proofs.lemmas.Option.{slice_get-get_or, slice_get-map}
use Rattle.std.proofs.lemmas.Bool.Decides.{nat_tests}
use Rattle.std.proofs.lemmas.List.{length-replicate}
use Rattle.rule_base.specs.Value.{nil}
use Rattle.rule_base.specs.declared.value.Value.{Value}
use Rattle.rule_base.specs.declared.element.Element.{Element}
use Rattle.rule_base.specs.declared.condition.Test.{Test}
use Rattle.rule_base.specs.declared.condition.Cond.{Cond}
use Rattle.rule_base.specs.declared.program.Class.{Class}
use Rattle.rule_base.specs.Chains.{only_if, ◌>>=◌}
use Rattle.rule_base.specs.Bindings.{Bindings}
use Rattle.rule_base.specs.Acceptance.{accepts, after_tests}
use Rattle.rule_base.specs.Sound.{sizes_of}
use Rattle.ops_reader.specs.declared.form.FormCond.{FormCond}
use Rattle.rule_checker.specs.declared.refusal.CheckKind.TheVariants.{UnknownClass}
use Rattle.rule_checker.specs.declared.scope.Scope.{Scope}
use Rattle.rule_checker.specs.declared.condition_tests.TestsSoFar.{TestsSoFar}
use Rattle.rule_checker.specs.declared.left_side.Elements.{Elements}
use Rattle.rule_checker.specs.declared.left_side.LeftSide.{LeftSide}
use Rattle.rule_checker.specs.Names.{number_in, number_of}
use Rattle.rule_checker.specs.Walk.{after_each}
use Rattle.rule_checker.specs.Classes.{class_names, declared_class, attributes_at}
use Rattle.rule_checker.specs.Scope.{variable_of, behind}
use Rattle.rule_checker.specs.ConditionTests.{tests_of}
use Rattle.rule_checker.specs.LeftSide.{few_conditions, first_is_positive, elements_after, with_pattern, with_cond}
use Rattle.rule_checker.specs.NamedBindings.{NamedValues, AgreeOn}
use Rattle.rule_checker.specs.WrittenConditions.{after_attributes, attributes_in, accepts_written}
use Rattle.rule_checker.specs.WrittenRules.{AsksWhatIsWritten, numbers_behind, AllAskWhatIsWritten}
use Rattle.rule_checker.proofs.ResultLemmas.{passed, found, same_ok}
use Rattle.rule_checker.proofs.NamedLemmas.{equal_numbers, IsNumbered}
use Rattle.rule_checker.proofs.WrittenTestLemmas.{Agrees, attributes-go}

-- each class is found by its name
pub record AreNamedOnce (classes : List Class) : Type 0 where
  pub found : (at name : ℕ) → slice_get (class_names classes) at ≡ Some name → number_in (class_names classes) name ≡ Some at

-- the name that has this number
pub number_in-at : (names : List ℕ) (name number : ℕ) → number_in names name ≡ Some number → slice_get names number ≡ Some name
number_in-at names name number e =
    let at = position-Some (nat_eq name) names number 0 e in
    let same : name ≡ get_or names number 0 = equal_numbers name (get_or names number 0) at.1 in
    slice_get-get_or names number 0 at.0 ∙ ap Some (sym same)

-- the class of an element that is sized
record IsOf (classes : List Class) (number count : ℕ) : Type 0 where
  class : Class
  at : slice_get classes number ≡ Some class
  size : length class.attrs ≡ count
  name : slice_get (class_names classes) number ≡ Some class.name
  attributes : attributes_at classes number ≡ class.attrs

class-of : (classes : List Class) (number size : ℕ) → slice_get (sizes_of classes) number ≡ Some size → IsOf classes number size
class-of classes number long sized = by (slice_get classes number) refl
  where
    by : (o : Option Class) → slice_get classes number ≡ o → IsOf classes number long
    by None none =
        let wrong = sym sized ∙ slice_get-map (λ (c : Class). length c.attrs) classes number ∙ ap (λ (o : Option Class). option_map (λ (c : Class). length c.attrs) o) none in
        absurd (cc)
    by (Some class) is =
        let same = sym sized ∙ slice_get-map (λ (c : Class). length c.attrs) classes number ∙ ap (λ (o : Option Class). option_map (λ (c : Class). length c.attrs) o) is in
        let equal : long ≡ length class.attrs = cc in
        record {
          class = class;
          at = is;
          size = sym equal;
          name = slice_get-map (λ (c : Class). c.name) classes number ∙ ap (λ (o : Option Class). option_map (λ (c : Class). c.name) o) is;
          attributes = ap (λ (o : Option Class). option_map_or (λ (c : Class). c.attrs) o []) is;
        }

equal-at : (m n : ℕ) → (m == n) ≡ true → m ≡ n
equal-at m n h = grind (arith, nat_tests)

equal_is : (m n : ℕ) → m ≡ n → (m == n) ≡ true
equal_is m n h = grind (arith, nat_tests)

unless_equal : (m n : ℕ) → (m ≡ n → ⊥) → (m == n) ≡ false
unless_equal m n differs = by (m == n) refl
  where
    by : (b : Bool) → (m == n) ≡ b → (m == n) ≡ false
    by true is = absurd (differs (equal-at m n is))
    by false is = is

agree-only : (scope : Scope) (vars : ℕ) (o : Option Bindings) (w : Option NamedValues) → Agrees scope vars o w → AgreeOn (variable_of scope) o w
agree-only scope vars None None h = tt
agree-only scope vars None (Some named) h = h
agree-only scope vars (Some bindings) None h = h
agree-only scope vars (Some bindings) (Some named) h = h.1

-- what a condition element accepts, and what the written one does
accepts-agree : (classes : List Class) (vars class : ℕ) (w : FormCond) (done : TestsSoFar) (e : Element) (bindings : Bindings) (named : NamedValues) → AreNamedOnce classes
    → declared_class classes w.class ≡ Ok class → IsOf classes e.class (length e.values)
    → ((c : Class) → attributes_at classes class ≡ c.attrs → length c.attrs ≡ length e.values → Agrees done.scope vars (after_tests done.tests bindings e.values) (after_attributes w.tests named (zip c.attrs e.values)))
    → AgreeOn (variable_of done.scope) (accepts (record { negated = w.negated; class = class; tests = done.tests }) bindings e) (accepts_written classes w named e)
accepts-agree classes vars class w done e bindings named once declared of tests_agree = by (class == e.class) refl
  where
    number : number_in (class_names classes) w.class ≡ Some class
    number = found (number_in (class_names classes) w.class) UnknownClass class declared

    named_so : slice_get (class_names classes) class ≡ Some w.class
    named_so = number_in-at (class_names classes) w.class class number

    accepted : Bool → Option NamedValues
    accepted b = option_and_then (λ given. after_attributes w.tests given (attributes_in of.class e.values)) (only_if b named)

    by : (b : Bool) → (class == e.class) ≡ b
        → AgreeOn (variable_of done.scope) (option_and_then (λ given. after_tests done.tests given e.values) (only_if (class == e.class) bindings)) (accepts_written classes w named e)
    by true is =
        let same : class ≡ e.class = equal-at class e.class is in
        let names : Some w.class ≡ Some of.class.name = sym named_so ∙ ap (slice_get (class_names classes)) same ∙ of.name in
        let name : (of.class.name == w.class) ≡ true = equal_is of.class.name w.class (cc) in
        let attrs : attributes_at classes class ≡ of.class.attrs = ap (attributes_at classes) same ∙ of.attributes in
        let agree = agree-only done.scope vars (after_tests done.tests bindings e.values) (after_attributes w.tests named (zip of.class.attrs e.values)) (tests_agree of.class attrs of.size) in
        rw (is, of.at, name) agree
    by false is =
        let differs : (of.class.name == w.class) ≡ false = unless_equal of.class.name w.class (λ same.
        let at : slice_get (class_names classes) e.class ≡ Some w.class = of.name ∙ ap Some same in
        let there = sym number ∙ once.found e.class w.class at in
        let equal : class ≡ e.class = cc in
        let wrong = sym is ∙ equal_is class e.class equal in
        absurd (cc)) in
        rw (is, of.at, differs) tt

-- what comes of a condition element
pub record Checks (classes : List Class) (vars : ℕ) (left : LeftSide) (written : FormCond) (checked : Cond) (next : LeftSide) : Type 0 where
  pub class : ℕ
  pub declared : declared_class classes written.class ≡ Ok class
  pub is_of : checked.class ≡ class
  pub inside : ℕ → Option ℕ
  pub asks : AsksWhatIsWritten classes vars (variable_of left.scope) inside written checked
  pub numbers : variable_of next.scope ≡ numbers_behind written.negated (variable_of left.scope) inside
  pub elements : elements_after left.elements written.negated class written.named ≡ Ok next.elements
  pub conds : next.conds ≡ left.conds ++ checked ∷ []
  pub outside : next.scope.local ≡ []
  pub numbered : IsNumbered next.scope
  pub grown : left.scope.vars ≤ next.scope.vars

-- the variables behind a condition element
numbers-behind : (negated : Bool) (before : Scope) (done : Scope) → before.local ≡ [] → (negated ≡ true → done.bound ≡ before.bound) → (negated ≡ false → done.local ≡ before.local)
    → variable_of (behind done) ≡ numbers_behind negated (variable_of before) (variable_of done)
numbers-behind true before done none outside inside =
    ap (λ (bound : List (ℕ × ℕ)). λ (name : ℕ). option_or (number_of bound name) (number_of [] name)) (outside refl)
    ∙ ap (λ (local : List (ℕ × ℕ)). λ (name : ℕ). option_or (number_of before.bound name) (number_of local name)) (sym none)
numbers-behind false before done none outside inside =
    ap (λ (local : List (ℕ × ℕ)). λ (name : ℕ). option_or (number_of done.bound name) (number_of local name)) (sym (inside refl ∙ none))

numbered-behind : (negated : Bool) (before done : Scope) → variable_of (behind done) ≡ numbers_behind negated (variable_of before) (variable_of done) → before.vars ≤ done.vars → IsNumbered before → IsNumbered done → IsNumbered (behind done)
numbered-behind true before done same grown front inside = record {
  below = λ name var is. omega (arith, front.below name var (there name var is), grown);
  apart = λ first second var is also. front.apart first second var (there first var is) (there second var also);
}
  where
    there : (name var : ℕ) → variable_of (behind done) name ≡ Some var → variable_of before name ≡ Some var
    there name var is = sym (ap (λ (f : ℕ → Option ℕ). f name) same) ∙ is
numbered-behind false before done same grown front inside = record {
  below = λ name var is. inside.below name var (there name var is);
  apart = λ first second var is also. inside.apart first second var (there first var is) (there second var also);
}
  where
    there : (name var : ℕ) → variable_of (behind done) name ≡ Some var → variable_of done name ≡ Some var
    there name var is = sym (ap (λ (f : ℕ → Option ℕ). f name) same) ∙ is

-- a condition element with its pattern
pub record HasPattern (class : ℕ) (attrs : List ℕ) (left : LeftSide) (w : FormCond) (next : LeftSide) : Type 0 where
  pub done : TestsSoFar
  pub tests : tests_of left.scope w.negated attrs w.tests ≡ Ok done
  pub elements : Elements
  pub named : elements_after left.elements w.negated class w.named ≡ Ok elements
  pub is : next ≡ record { conds = left.conds ++ record { negated = w.negated; class = class; tests = done.tests } ∷ []; scope = behind done.scope; elements = elements }

pattern-of : (class : ℕ) (attrs : List ℕ) (left : LeftSide) (w : FormCond) (next : LeftSide) → with_pattern class attrs left w ≡ Ok next → HasPattern class attrs left w next
pattern-of class attrs left w next e =
    let t = passed (tests_of left.scope w.negated attrs w.tests) (λ (done : TestsSoFar). elements_after left.elements w.negated class w.named >>= λ elements.
    Ok (record { conds = left.conds ++ record { negated = w.negated; class = class; tests = done.tests } ∷ []; scope = behind done.scope; elements = elements })) next e in
    let m = passed (elements_after left.elements w.negated class w.named) (λ elements. Ok (record { conds = left.conds ++ record { negated = w.negated; class = class; tests = t.0.tests } ∷ []; scope = behind t.0.scope; elements = elements })) next t.2 in
    record { done = t.0; tests = t.1; elements = m.0; named = m.1; is = sym (same_ok m.2) }

-- what comes of a pattern
pattern-checks : (classes : List Class) (vars class : ℕ) (left : LeftSide) (w : FormCond) (next : LeftSide) → AreNamedOnce classes → left.scope.local ≡ [] → IsNumbered left.scope → next.scope.vars ≤ vars
    → declared_class classes w.class ≡ Ok class → (p : HasPattern class (attributes_at classes class) left w next) → Checks classes vars left w (record { negated = w.negated; class = class; tests = p.done.tests }) next
pattern-checks classes vars class left w next once none numbered room declared p =
    let attrs = attributes_at classes class in
    let start : TestsSoFar = record { tests = []; scope = left.scope } in
    let walk = λ (values : List Value) (size : length attrs ≡ length values). attributes-go vars w.negated attrs values size start w.tests p.done numbered p.tests in
    let scope : next.scope ≡ behind p.done.scope = ap (λ (l : LeftSide). l.scope) p.is in
    let some = walk (replicate (length attrs) nil) (sym (length-replicate (length attrs) nil)) in
    let behind_is = numbers-behind w.negated left.scope p.done.scope none some.outside some.inside in
    let within : p.done.scope.vars ≤ vars = omega (arith, room, ap (λ (s : Scope). s.vars) scope) in
    record {
      class = class;
      declared = declared;
      is_of = refl;
      inside = variable_of p.done.scope;
      asks = record {
        sign = refl;
        same = λ e bindings named sized size same.
            accepts-agree classes vars class w p.done e bindings named once declared (class-of classes e.class (length e.values) sized) (λ c attrs_are long.
            let go = walk e.values (ap length attrs_are ∙ long) in
            let agree = go.agree bindings named size within same in
            let by_number : Agrees p.done.scope vars (after_tests p.done.tests bindings e.values) (after_attributes w.tests named (zip attrs e.values)) =
            subst (λ (ts : List Test). Agrees p.done.scope vars (after_tests ts bindings e.values) (after_attributes w.tests named (zip attrs e.values))) (sym go.more) agree in
            subst (λ (names : List ℕ). Agrees p.done.scope vars (after_tests p.done.tests bindings e.values) (after_attributes w.tests named (zip names e.values))) attrs_are by_number);
      };
      numbers = ap variable_of scope ∙ behind_is;
      elements = p.named ∙ ap (λ (l : LeftSide). Ok l.elements) (sym p.is);
      conds = ap (λ (l : LeftSide). l.conds) p.is;
      outside = ap (λ (s : Scope). s.local) scope;
      numbered = subst IsNumbered (sym scope) (numbered-behind w.negated left.scope p.done.scope behind_is some.grown numbered some.numbered);
      grown = omega (arith, some.grown, ap (λ (s : Scope). s.vars) scope);
    }

-- a written condition element more
cond-checks : (classes : List Class) (vars : ℕ) (left : LeftSide) (w : FormCond) (next : LeftSide) → AreNamedOnce classes → left.scope.local ≡ [] → IsNumbered left.scope → next.scope.vars ≤ vars → with_cond classes left w ≡ Ok next
    → (c : Cond) × Checks classes vars left w c next
cond-checks classes vars left w next once none numbered room e =
    let few = passed (few_conditions left) (λ _. first_is_positive left w.negated >>= λ _. declared_class classes w.class >>= λ class. with_pattern class (attributes_at classes class) left w) next e in
    let first = passed (first_is_positive left w.negated) (λ _. declared_class classes w.class >>= λ class. with_pattern class (attributes_at classes class) left w) next few.2 in
    let c = passed (declared_class classes w.class) (λ class. with_pattern class (attributes_at classes class) left w) next first.2 in
    let p = pattern-of c.0 (attributes_at classes c.0) left w next c.2 in
    (record { negated = w.negated; class = c.0; tests = p.done.tests }, pattern-checks classes vars c.0 left w next once none numbered room c.1 p)

-- condition elements from left to right, each with what comes of it
abbrev pub Walked : List Class → ℕ → LeftSide → List FormCond → List Cond → LeftSide → Type 0
Walked classes vars left [] [] last = left ≡ last
Walked classes vars left [] (c ∷ cs) last = ⊥
Walked classes vars left (w ∷ ws) [] last = ⊥
Walked classes vars left (w ∷ ws) (c ∷ cs) last = (next : LeftSide) × Checks classes vars left w c next × Walked classes vars next ws cs last

conds-grow : (classes : List Class) (left : LeftSide) (ws : List FormCond) (last : LeftSide) → AreNamedOnce classes → left.scope.local ≡ [] → IsNumbered left.scope → after_each (with_cond classes) left ws ≡ Ok last
    → left.scope.vars ≤ last.scope.vars
conds-grow classes left [] last once none numbered e = omega (arith, ap (λ (l : LeftSide). l.scope.vars) (same_ok e))
conds-grow classes left (w ∷ ws) last once none numbered e =
    let t = passed (with_cond classes left w) (λ mid. after_each (with_cond classes) mid ws) last e in
    let c = (cond-checks classes t.0.scope.vars left w t.0 once none numbered (omega arith) t.1).1 in
    omega (arith, c.grown, conds-grow classes t.0 ws last once c.outside c.numbered t.2)

-- what was walked, and what was made of it
pub record HasWalked (classes : List Class) (vars : ℕ) (left : LeftSide) (ws : List FormCond) (last : LeftSide) : Type 0 where
  pub conds : List Cond
  pub more : last.conds ≡ left.conds ++ conds
  pub walked : Walked classes vars left ws conds last
  pub numbered : IsNumbered last.scope

pub conds-walked : (classes : List Class) (vars : ℕ) (left : LeftSide) (ws : List FormCond) (last : LeftSide) → AreNamedOnce classes → left.scope.local ≡ [] → IsNumbered left.scope → last.scope.vars ≤ vars
    → after_each (with_cond classes) left ws ≡ Ok last → HasWalked classes vars left ws last
conds-walked classes vars left [] last once none numbered room e =
    let same = same_ok e in
    record { conds = []; more = ap (λ (l : LeftSide). l.conds) (sym same) ∙ sym (append-nil left.conds); walked = same; numbered = subst (λ (l : LeftSide). IsNumbered l.scope) same numbered }
conds-walked classes vars left (w ∷ ws) last once none numbered room e =
    let t = passed (with_cond classes left w) (λ mid. after_each (with_cond classes) mid ws) last e in
    let first = (cond-checks classes t.0.scope.vars left w t.0 once none numbered (omega arith) t.1).1 in
    let grown = conds-grow classes t.0 ws last once first.outside first.numbered t.2 in
    let c = cond-checks classes vars left w t.0 once none numbered (omega (arith, grown, room)) t.1 in
    let rest = conds-walked classes vars t.0 ws last once first.outside first.numbered room t.2 in
    record {
      conds = c.0 ∷ rest.conds;
      more = rest.more ∙ ap (λ (cs : List Cond). cs ++ rest.conds) c.1.conds ∙ append_assoc left.conds (c.0 ∷ []) rest.conds;
      walked = (t.0, c.1, rest.walked);
      numbered = rest.numbered;
    }

-- so they ask what is written
pub walked-ask : (classes : List Class) (vars : ℕ) (left : LeftSide) (ws : List FormCond) (cs : List Cond) (last : LeftSide) → Walked classes vars left ws cs last → AllAskWhatIsWritten classes vars (variable_of left.scope) ws cs
walked-ask classes vars left [] [] last h = tt
walked-ask classes vars left [] (c ∷ cs) last h = h
walked-ask classes vars left (w ∷ ws) [] last h = h
walked-ask classes vars left (w ∷ ws) (c ∷ cs) last h =
    (h.1.inside, h.1.asks, subst (λ (front : ℕ → Option ℕ). AllAskWhatIsWritten classes vars front ws cs) h.1.numbers (walked-ask classes vars h.0 ws cs last h.2))
