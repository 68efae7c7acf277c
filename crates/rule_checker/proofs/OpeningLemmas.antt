-- The elements of makes are an opening.
use Rattle.std.proofs.Common.{◌≡◌, ℕ, ◌+◌, ◌^◌, ◌<◌, List, [], ◌∷◌, ◌++◌, Some, Ok, length, fold, slice_get, sym, ap, ◌∙◌, subst, arith, length-append}
use Rattle.std.specs.List.{AllByRecursion}
use Rattle.rule_base.specs.declared.value.Value.{Value}
use Rattle.rule_base.specs.declared.element.Element.{Element}
use Rattle.rule_base.specs.declared.program.Class.{Class}
use Rattle.rule_base.specs.declared.program.Program.{Program}
use Rattle.rule_base.specs.Memory.{tags_of, Rises, RisesFrom, HasSize}
use Rattle.rule_base.specs.Opening.{AreConsecutive, IsOpening}
use Rattle.rule_base.specs.Sound.{sizes_of, IsSound}
use Rattle.ops_reader.specs.declared.form.Form.{Form}
use Rattle.ops_reader.specs.declared.form.Form.TheVariants as form
use Rattle.rule_checker.specs.Forms.{at_form, after_forms}
use Rattle.rule_checker.specs.Opening.{is_make, with_made, with_initial, opening_list}
use Rattle.rule_checker.proofs.ResultLemmas.{passed, same_ok}
use Rattle.rule_checker.proofs.CheckedLemmas.{make_of-size, at_form-passes}

-- a make of a class has as many values as the class has attributes
abbrev pub IsSized : List ℕ → ℕ × List Value → Type 0
IsSized sizes make = slice_get sizes make.0 ≡ Some (length make.1)

-- the form of a make that is read gives one of the right size
is_make-sized : (classes : List Class) (f : Form) (make : ℕ × List Value) → is_make classes f ≡ Ok make → IsSized (sizes_of classes) make
is_make-sized classes (form.Make class sets) make e = make_of-size classes class sets make e
is_make-sized classes (form.Literalize class attrs) make e = absurd (cc)
is_make-sized classes (form.P name conds actions) make e = absurd (cc)
is_make-sized classes (form.Strategy mea) make e = absurd (cc)
is_make-sized classes (form.Watch level) make e = absurd (cc)

-- elements with the tags 1, 2, 3 and so on, each with as many values as its class has attributes
record AreMade (sizes : List ℕ) (elements : List Element) : Type 0 where
  pub consecutive : AreConsecutive 1 (tags_of elements)
  pub sized : AllByRecursion (HasSize sizes) elements

consecutive_push : (next : ℕ) (elements : List Element) (e : Element) → AreConsecutive next (tags_of elements) → e.tag ≡ next + length elements → AreConsecutive next (tags_of (elements ++ e ∷ []))
consecutive_push next [] e h tag = (omega (arith, tag), tt)
consecutive_push next (first ∷ rest) e h tag = (h.0, consecutive_push (next + 1) rest e h.1 (omega (arith, tag)))

sized_push : (sizes : List ℕ) (elements : List Element) (e : Element) → AllByRecursion (HasSize sizes) elements → HasSize sizes e → AllByRecursion (HasSize sizes) (elements ++ e ∷ [])
sized_push sizes [] e h size = (size, tt)
sized_push sizes (first ∷ rest) e h size = (h.0, sized_push sizes rest e h.1 size)

with_made-keeps : (sizes : List ℕ) (elements : List Element) (make : ℕ × List Value) → AreMade sizes elements → IsSized sizes make → AreMade sizes (with_made elements make)
with_made-keeps sizes elements make made size =
    let e : Element = record { tag = length elements + 1; class = make.0; values = make.1 } in record {
      consecutive = consecutive_push 1 elements e made.consecutive (omega arith);
      sized = sized_push sizes elements e made.sized size;
    }

with_made-counts : (elements : List Element) (make : ℕ × List Value) → length (with_made elements make) ≡ length elements + 1
with_made-counts elements make = length-append elements (record { tag = length elements + 1; class = make.0; values = make.1 } ∷ [])

-- the makes of the program
makes_made : (sizes : List ℕ) (elements : List Element) (makes : List (ℕ × List Value)) → AreMade sizes elements → AllByRecursion (IsSized sizes) makes → AreMade sizes (fold with_made elements makes)
makes_made sizes elements [] made h = made
makes_made sizes elements (make ∷ makes) made h = makes_made sizes (with_made elements make) makes (with_made-keeps sizes elements make made h.0) h.1

makes_counted : (elements : List Element) (makes : List (ℕ × List Value)) → length (fold with_made elements makes) ≡ length elements + length makes
makes_counted elements [] = omega arith
makes_counted elements (make ∷ makes) = omega (arith, makes_counted (with_made elements make) makes, with_made-counts elements make)

-- one form more of the memory file
with_initial-made : (classes : List Class) (elements : List Element) (f : Form) (next : List Element) → AreMade (sizes_of classes) elements → with_initial classes elements f ≡ Ok next → AreMade (sizes_of classes) next × (length next ≡ length elements + 1)
with_initial-made classes elements f next made e =
    let make = passed (is_make classes f) (λ make. Ok (with_made elements make)) next e in (
      subst (AreMade (sizes_of classes)) (same_ok make.2) (with_made-keeps (sizes_of classes) elements make.0 made (is_make-sized classes f make.0 make.1)),
      sym (ap length (same_ok make.2)) ∙ with_made-counts elements make.0,
    )

forms_made : (classes : List Class) (number : ℕ) (elements : List Element) (forms : List Form) (done : List Element) → AreMade (sizes_of classes) elements → after_forms (with_initial classes) number elements forms ≡ Ok done
    → AreMade (sizes_of classes) done × (length done ≡ length elements + length forms)
forms_made classes number elements [] done made e = (subst (AreMade (sizes_of classes)) (same_ok e) made, omega (arith, ap length (same_ok e)))
forms_made classes number elements (f ∷ forms) done made e =
    let next = passed (at_form number (with_initial classes elements f)) (λ next. after_forms (with_initial classes) (number + 1) next forms) done e in
    let one = with_initial-made classes elements f next.0 made (at_form-passes number (with_initial classes elements f) next.0 next.1) in
    let rest = forms_made classes (number + 1) next.0 forms done one.0 next.2 in
    (rest.0, omega (arith, rest.1, one.1))

-- numbers one after another rise
consecutive_rises : (below next : ℕ) (ns : List ℕ) → below < next → AreConsecutive next ns → RisesFrom below ns
consecutive_rises below next [] lt h = tt
consecutive_rises below next (n ∷ ns) lt h = (omega (arith, lt, h.0), consecutive_rises n (next + 1) ns (omega (arith, h.0)) h.1)

consecutive_Rises : (next : ℕ) (ns : List ℕ) → AreConsecutive next ns → Rises ns
consecutive_Rises next [] h = tt
consecutive_Rises next (n ∷ ns) h = consecutive_rises n (next + 1) ns (omega (arith, h.0)) h.1

-- the opening memory of a sound program is an opening
pub opening_list-IsOpening : (program : Program) (forms : List Form) (elements : List Element) → IsSound program → length program.makes < 2 ^ 32 → length forms < 2 ^ 32 → opening_list program forms ≡ Ok elements → IsOpening (sizes_of program.classes) elements
opening_list-IsOpening program forms elements sound few_makes few_forms e =
    let sizes = sizes_of program.classes in
    let own = makes_made sizes [] program.makes (record { consecutive = tt; sized = tt }) sound.sound_makes in
    let done = forms_made program.classes 1 (fold with_made [] program.makes) forms elements own e in record {
      memory = record { rising = consecutive_Rises 1 (tags_of elements) done.0.consecutive; sized = done.0.sized };
      consecutive = done.0.consecutive;
      few = omega (arith, done.1, makes_counted [] program.makes, few_makes, few_forms);
    }
