-- The elements that designators stand for, by their place and by what is written.
use Rattle.std.proofs.Common.{◌≡◌, ℕ, ◌+◌, Bool, true, false, cond, ◌==◌, List, [], ◌∷◌, ◌++◌, Option, None, Some, option_map, option_and_then, Ok, length, map, nat_eq, nat_le, slice_get, pos, negsuc, zero, suc, refl, sym, ap, ◌∙◌, subst, arith, length-append, append_assoc, append-nil}
use Rattle.std.specs.Map.{lookup}
use Rattle.std.proofs.lemmas.Bool.Decides.{nat_tests}
use Rattle.rule_base.specs.declared.element.Element.{Element}
use Rattle.rule_base.specs.declared.condition.Cond.{Cond}
use Rattle.rule_base.specs.declared.program.Class.{Class}
use Rattle.rule_base.specs.Chains.{only_if}
use Rattle.rule_base.specs.Bindings.{Bindings}
use Rattle.rule_base.specs.Acceptance.{after_tests, accepts}
use Rattle.rule_base.specs.ElementMatch.{after_element, matched}
use Rattle.ops_reader.specs.declared.form.At.{At}
use Rattle.ops_reader.specs.declared.form.At.TheVariants as at
use Rattle.ops_reader.specs.declared.form.FormCond.{FormCond}
use Rattle.rule_checker.specs.declared.refusal.CheckKind.TheVariants.{BadDesignator}
use Rattle.rule_checker.specs.declared.left_side.Elements.{Elements}
use Rattle.rule_checker.specs.declared.left_side.LeftSide.{LeftSide}
use Rattle.rule_checker.specs.Names.{Numbering, number_of}
use Rattle.rule_checker.specs.Walk.{refused_if}
use Rattle.rule_checker.specs.LeftSide.{new_element_variable, elements_after, no_conditions}
use Rattle.rule_checker.specs.RightSide.{known_designator}
use Rattle.rule_checker.specs.Designators.{named_next, named_elements, designated}
use Rattle.rule_checker.proofs.ResultLemmas.{passed, found, same_ok}
use Rattle.rule_checker.proofs.WrittenConditionLemmas.{Walked}

-- how many elements a condition element takes, of which class, and which place its name gets
abbrev taken : Bool → ℕ
taken true = 0
taken false = 1

abbrev class_taken : Bool → ℕ → List ℕ
class_taken true class = []
class_taken false class = class ∷ []

abbrev place_named : Bool → Option ℕ → ℕ → Numbering
place_named true named place = []
place_named false None place = []
place_named false (Some name) place = (name, place) ∷ []

-- the places of the element variables, the first of which is this one
abbrev element_places : ℕ → List FormCond → Numbering
element_places place [] = []
element_places place (w ∷ ws) = place_named w.negated w.named place ++ element_places (place + taken w.negated) ws

-- the elements with one more
record AreAfter (before : Elements) (negated : Bool) (class : ℕ) (named : Option ℕ) (after : Elements) : Type 0 where
  classes : after.classes ≡ before.classes ++ class_taken negated class
  names : after.names ≡ before.names ++ place_named negated named (length before.classes)

are-after : (before : Elements) (negated : Bool) (class : ℕ) (named : Option ℕ) (after : Elements) → elements_after before negated class named ≡ Ok after → AreAfter before negated class named after
are-after before true class named after e =
    let same = same_ok e in
    record { classes = ap (λ (x : Elements). x.classes) (sym same) ∙ sym (append-nil before.classes); names = ap (λ (x : Elements). x.names) (sym same) ∙ sym (append-nil before.names) }
are-after before false class None after e =
    let same = same_ok e in
    record { classes = ap (λ (x : Elements). x.classes) (sym same); names = ap (λ (x : Elements). x.names) (sym same) ∙ sym (append-nil before.names) }
are-after before false class (Some name) after e =
    let w = passed (new_element_variable before name) (λ _. Ok (record { classes = before.classes ++ class ∷ []; names = before.names ++ (name, length before.classes) ∷ [] })) after e in
    let same = same_ok w.2 in
    record { classes = ap (λ (x : Elements). x.classes) (sym same); names = ap (λ (x : Elements). x.names) (sym same) }

length-taken : (negated : Bool) (class : ℕ) (classes : List ℕ) → length (classes ++ class_taken negated class) ≡ length classes + taken negated
length-taken true class classes = omega (arith, length-append classes [])
length-taken false class classes = omega (arith, length-append classes (class ∷ []))

-- the names of the elements of a left-hand side
names-walked : (classes : List Class) (vars : ℕ) (left : LeftSide) (ws : List FormCond) (cs : List Cond) (last : LeftSide) → Walked classes vars left ws cs last
    → last.elements.names ≡ left.elements.names ++ element_places (length left.elements.classes) ws
names-walked classes vars left [] [] last h = ap (λ (l : LeftSide). l.elements.names) (sym h) ∙ sym (append-nil left.elements.names)
names-walked classes vars left [] (c ∷ cs) last h = absurd h
names-walked classes vars left (w ∷ ws) [] last h = absurd h
names-walked classes vars left (w ∷ ws) (c ∷ cs) last h =
    let after = are-after left.elements w.negated h.1.class w.named h.0.elements h.1.elements in
    names-walked classes vars h.0 ws cs last h.2
    ∙ ap (λ (names : Numbering). names ++ element_places (length h.0.elements.classes) ws) after.names
    ∙ ap (λ (place : ℕ). (left.elements.names ++ place_named w.negated w.named (length left.elements.classes)) ++ element_places place ws) (ap length after.classes ∙ length-taken w.negated h.1.class left.elements.classes)
    ∙ append_assoc left.elements.names (place_named w.negated w.named (length left.elements.classes)) (element_places (length left.elements.classes + taken w.negated) ws)

-- elements of which each positive condition element takes one of its class
abbrev FitsNext : Bool → Cond → List Element → (List Element → Type 0) → Type 0
FitsNext true c elements rest = rest elements
FitsNext false c [] rest = ⊥
FitsNext false c (e ∷ elements) rest = (c.class ≡ e.class) × rest elements

abbrev Fit : List FormCond → List Cond → List Element → Type 0
Fit [] [] elements = elements ≡ []
Fit [] (c ∷ cs) elements = ⊥
Fit (w ∷ ws) [] elements = ⊥
Fit (w ∷ ws) (c ∷ cs) elements = FitsNext w.negated c elements (λ rest. Fit ws cs rest)

class-accepted : (c : Cond) (bindings after : Bindings) (e : Element) → accepts c bindings e ≡ Some after → c.class ≡ e.class
class-accepted c bindings after e is = by (c.class == e.class) refl is
  where
    by : (b : Bool) → (c.class == e.class) ≡ b → option_and_then (λ given. after_tests c.tests given e.values) (only_if b bindings) ≡ Some after → c.class ≡ e.class
    by true same rest = grind (arith, nat_tests)
    by false same rest = absurd (cc)

-- the elements of a match fit
matched-fit : (classes : List Class) (vars : ℕ) (left : LeftSide) (ws : List FormCond) (cs : List Cond) (last : LeftSide) (elements : List Element) (bindings final : Bindings) → Walked classes vars left ws cs last
    → matched cs elements bindings ≡ Some final → Fit ws cs elements
matched-fit classes vars left [] [] last [] bindings final h is = refl
matched-fit classes vars left [] [] last (e ∷ elements) bindings final h is = absurd (cc)
matched-fit classes vars left [] (c ∷ cs) last elements bindings final h is = absurd h
matched-fit classes vars left (w ∷ ws) [] last elements bindings final h is = absurd h
matched-fit classes vars left (w ∷ ws) (c ∷ cs) last elements bindings final h is =
    by w.negated elements (λ more after here. matched-fit classes vars h.0 ws cs last more after final h.2 here)
    (subst (λ (b : Bool). option_and_then (λ (after : List Element × Bindings). matched cs after.0 after.1) (after_element b c elements bindings) ≡ Some final) h.1.asks.sign is)
  where
    by_accepted : (e : Element) (more : List Element) (o : Option Bindings) → accepts c bindings e ≡ o → ((more : List Element) (after : Bindings) → matched cs more after ≡ Some final → Fit ws cs more)
        → option_and_then (λ (after : List Element × Bindings). matched cs after.0 after.1) (option_map (λ after. (more, after)) o) ≡ Some final → (c.class ≡ e.class) × Fit ws cs more
    by_accepted e more None here rest is' = absurd (cc)
    by_accepted e more (Some after) here rest is' = (class-accepted c bindings after e here, rest more after is')

    by : (b : Bool) (elements : List Element) → ((more : List Element) (after : Bindings) → matched cs more after ≡ Some final → Fit ws cs more)
        → option_and_then (λ (after : List Element × Bindings). matched cs after.0 after.1) (after_element b c elements bindings) ≡ Some final → FitsNext b c elements (λ rest. Fit ws cs rest)
    by true elements rest is' = rest elements bindings is'
    by false [] rest is' = absurd (cc)
    by false (e ∷ more) rest is' = by_accepted e more (accepts c bindings e) refl rest is'

-- their classes are those of the positive condition elements
classes-walked : (classes : List Class) (vars : ℕ) (left : LeftSide) (ws : List FormCond) (cs : List Cond) (last : LeftSide) (elements : List Element) → Walked classes vars left ws cs last → Fit ws cs elements
    → last.elements.classes ≡ left.elements.classes ++ map (λ (e : Element). e.class) elements
classes-walked classes vars left [] [] last elements h fit =
    ap (λ (l : LeftSide). l.elements.classes) (sym h) ∙ sym (append-nil left.elements.classes) ∙ ap (λ (es : List Element). left.elements.classes ++ map (λ (e : Element). e.class) es) (sym fit)
classes-walked classes vars left [] (c ∷ cs) last elements h fit = absurd h
classes-walked classes vars left (w ∷ ws) [] last elements h fit = absurd h
classes-walked classes vars left (w ∷ ws) (c ∷ cs) last elements h fit =
    let after = are-after left.elements w.negated h.1.class w.named h.0.elements h.1.elements in
    by w.negated elements (λ rest there. classes-walked classes vars h.0 ws cs last rest h.2 there) (after.classes ∙ ap (λ class. left.elements.classes ++ class_taken w.negated class) (sym h.1.is_of)) fit
  where
    by : (b : Bool) (elements : List Element) → ((rest : List Element) → Fit ws cs rest → last.elements.classes ≡ h.0.elements.classes ++ map (λ (e : Element). e.class) rest)
        → h.0.elements.classes ≡ left.elements.classes ++ class_taken b c.class → FitsNext b c elements (λ rest. Fit ws cs rest)
        → last.elements.classes ≡ left.elements.classes ++ map (λ (e : Element). e.class) elements
    by true elements later now fit = later elements fit ∙ ap (λ ns. ns ++ map (λ (e : Element). e.class) elements) (now ∙ append-nil left.elements.classes)
    by false [] later now fit = absurd fit
    by false (e ∷ elements) later now fit =
        later elements fit.1
        ∙ ap (λ ns. ns ++ map (λ (x : Element). x.class) elements) now
        ∙ append_assoc left.elements.classes (c.class ∷ []) (map (λ (x : Element). x.class) elements)
        ∙ ap (λ class. left.elements.classes ++ class ∷ map (λ (x : Element). x.class) elements) fit.0

-- the element at the seam of two lists
at_seam : (front : List Element) (e : Element) (behind : List Element) → slice_get (front ++ e ∷ behind) (length front) ≡ Some e
at_seam [] e behind = refl
at_seam (x ∷ front) e behind = at_seam front e behind

-- the element that a name stands for, by its place and by what is written
module _ (name : ℕ) where
  -- the same, behind some elements
  abbrev IsNamed : List Element → List FormCond → List Element → Type 0
  IsNamed front ws elements = lookup (nat_eq name) (named_elements ws elements) ≡ option_and_then (slice_get (front ++ elements)) (number_of (element_places (length front) ws) name)

  elements-named : (front : List Element) (ws : List FormCond) (cs : List Cond) (elements : List Element) → Fit ws cs elements → IsNamed front ws elements
  elements-named front [] [] elements fit = refl
  elements-named front [] (c ∷ cs) elements fit = absurd fit
  elements-named front (w ∷ ws) [] elements fit = absurd fit
  elements-named front (w ∷ ws) (c ∷ cs) elements fit = by w.negated w.named elements (λ more rest there. elements-named more ws cs rest there) fit
    where
      behind : (e : Element) (elements : List Element) → IsNamed (front ++ e ∷ []) ws elements
          → lookup (nat_eq name) (named_elements ws elements) ≡ option_and_then (slice_get (front ++ e ∷ elements)) (number_of (element_places (length front + 1) ws) name)
      behind e elements h =
          h
          ∙ ap (λ es. option_and_then (slice_get es) (number_of (element_places (length (front ++ e ∷ [])) ws) name)) (append_assoc front (e ∷ []) elements)
          ∙ ap (λ place. option_and_then (slice_get (front ++ e ∷ elements)) (number_of (element_places place ws) name)) (length-append front (e ∷ []))

      by_name : (b : Bool) (e : Element) (elements : List Element) → lookup (nat_eq name) (named_elements ws elements) ≡ option_and_then (slice_get (front ++ e ∷ elements)) (number_of (element_places (length front + 1) ws) name)
          → cond b (Some e) (lookup (nat_eq name) (named_elements ws elements)) ≡ option_and_then (slice_get (front ++ e ∷ elements)) (cond b (Some (length front)) (number_of (element_places (length front + 1) ws) name))
      by_name true e elements rest = sym (at_seam front e elements)
      by_name false e elements rest = rest

      by : (b : Bool) (named : Option ℕ) (elements : List Element) → ((more rest : List Element) → Fit ws cs rest → IsNamed more ws rest) → FitsNext b c elements (λ rest. Fit ws cs rest)
          → lookup (nat_eq name) (named_next b named (named_elements ws) elements) ≡ option_and_then (slice_get (front ++ elements)) (number_of (place_named b named (length front) ++ element_places (length front + taken b) ws) name)
      by true named elements rest fit =
          let place : length front ≡ length front + 0 = omega arith in
          rest front elements fit ∙ ap (λ at'. option_and_then (slice_get (front ++ elements)) (number_of (element_places at' ws) name)) place
      by false named [] rest fit = absurd fit
      by false None (e ∷ elements) rest fit = behind e elements (rest (front ++ e ∷ []) elements fit.1)
      by false (Some other) (e ∷ elements) rest fit = by_name (nat_eq name other) e elements (behind e elements (rest (front ++ e ∷ []) elements fit.1))

-- what the actions of a rule stand on: the elements of a match, by place and by what is written
pub record StandsOn (written : List FormCond) (checked : Elements) (elements : List Element) : Type 0 where
  pub classes : checked.classes ≡ map (λ (e : Element). e.class) elements
  pub designates : (w : At) (place : ℕ) → known_designator checked w ≡ Ok place → designated written elements w ≡ slice_get elements place

pub stands-on : (classes : List Class) (vars : ℕ) (ws : List FormCond) (cs : List Cond) (last : LeftSide) (elements : List Element) (bindings final : Bindings) → Walked classes vars no_conditions ws cs last
    → matched cs elements bindings ≡ Some final → StandsOn ws last.elements elements
stands-on classes vars ws cs last elements bindings final h is = record { classes = classes-walked classes vars no_conditions ws cs last elements h fit; designates = by }
  where
    fit : Fit ws cs elements
    fit = matched-fit classes vars no_conditions ws cs last elements bindings final h is

    by : (w : At) (place : ℕ) → known_designator last.elements w ≡ Ok place → designated ws elements w ≡ slice_get elements place
    by (at.Number (pos zero)) place e = absurd (cc)
    by (at.Number (pos (suc n))) place e =
        let w = passed (refused_if (nat_le (length last.elements.classes) n) BadDesignator) (λ _. Ok n) place e in
        ap (slice_get elements) (same_ok w.2)
    by (at.Number (negsuc n)) place e = absurd (cc)
    by (at.Name name) place e =
        let is' = found (number_of last.elements.names name) BadDesignator place e in
        let there : number_of (element_places 0 ws) name ≡ Some place = ap (λ (names : Numbering). number_of names name) (sym (names-walked classes vars no_conditions ws cs last h)) ∙ is' in
        elements-named name [] ws cs elements fit ∙ ap (option_and_then (slice_get elements)) there
