-- The makes of a checked program, and the elements of an opening memory, are those that are written: one form at a time.
use Rattle.std.proofs.Common.{◌≡◌, ℕ, ◌+◌, List, [], ◌∷◌, ◌++◌, Option, None, Some, option_map, Result, Ok, fold, length, replicate, slice_get, slice_set, refl, sym, ap, ◌∙◌, subst, arith, append_assoc, append-nil}
use Rattle.std.specs.Option.{option_map_or}
use Rattle.std.specs.List.{AllZip}
use Rattle.std.proofs.lemmas.Option.{slice_get-map}
use Rattle.rule_base.specs.declared.value.Value.{Value}
use Rattle.rule_base.specs.declared.element.Element.{Element}
use Rattle.rule_base.specs.declared.program.Class.{Class}
use Rattle.rule_base.specs.declared.program.Program.{Program}
use Rattle.rule_base.specs.Chains.{◌>>=◌}
use Rattle.rule_base.specs.Value.{nil}
use Rattle.rule_base.specs.Memory.{tags_of}
use Rattle.rule_base.specs.Opening.{AreConsecutive}
use Rattle.ops_reader.specs.declared.form.Form.{Form}
use Rattle.ops_reader.specs.declared.form.Form.TheVariants as form
use Rattle.rule_checker.specs.declared.refusal.CheckKind.{CheckKind}
use Rattle.rule_checker.specs.declared.refusal.CheckKind.TheVariants.{UnknownClass, UnknownAttribute}
use Rattle.rule_checker.specs.Names.{number_in}
use Rattle.rule_checker.specs.Walk.{after_each}
use Rattle.rule_checker.specs.Forms.{at_form, after_forms}
use Rattle.rule_checker.specs.Classes.{class_names, not_yet_declared, few_classes, with_attribute, with_class, declared_class, attributes_at, has_attribute}
use Rattle.rule_checker.specs.Makes.{with_value, values_of, make_of}
use Rattle.rule_checker.specs.Rules.{with_rule}
use Rattle.rule_checker.specs.Checked.{with_form, no_program, checked}
use Rattle.rule_checker.specs.Opening.{with_made, with_initial, opening_list}
use Rattle.rule_checker.specs.WrittenTerms.{with_attribute_set}
use Rattle.rule_checker.specs.WrittenMakes.{WrittenMake, make_in, written_makes, written_values, IsWrittenMake, IsWrittenElement, AreWrittenElements}
use Rattle.rule_checker.proofs.ListLemmas.{slice_get-front}
use Rattle.rule_checker.proofs.ResultLemmas.{passed, found, same_ok}
use Rattle.rule_checker.proofs.CheckedLemmas.{at_form-passes}
use Rattle.rule_checker.proofs.WrittenConditionLemmas.{number_in-at}
use Rattle.rule_checker.proofs.WrittenRuleLemmas.{zip_map, zip_push}
use Rattle.rule_checker.proofs.WrittenTermLemmas.{set-named}

-- settings in order
values-written : (attrs : List ℕ) (values : List Value) (sets : List (ℕ × Value)) (last : List Value) → after_each (with_value attrs) values sets ≡ Ok last
    → last ≡ fold (λ vs (set : ℕ × Value). with_attribute_set attrs set.0 set.1 vs) values sets
values-written attrs values [] last e = sym (same_ok e)
values-written attrs values (set ∷ sets) last e =
    let w = passed (with_value attrs values set) (λ next. after_each (with_value attrs) next sets) last e in
    let a = passed (has_attribute attrs set.0) (λ attr. Ok (slice_set values attr set.1)) w.0 w.1 in
    let is = found (number_in attrs set.0) UnknownAttribute a.0 a.1 in
    let next : w.0 ≡ with_attribute_set attrs set.0 set.1 values = sym (same_ok a.2) ∙ set-named set.0 attrs values a.0 set.1 is in
    values-written attrs w.0 sets last w.2 ∙ ap (λ vs. fold (λ vs' (s : ℕ × Value). with_attribute_set attrs s.0 s.1 vs') vs sets) next

-- the class with a number that goes with a name
record IsNamed (classes : List Class) (number name : ℕ) : Type 0 where
  class : Class
  at : slice_get classes number ≡ Some class
  named : class.name ≡ name
  attributes : attributes_at classes number ≡ class.attrs

class-named : (classes : List Class) (name number : ℕ) → declared_class classes name ≡ Ok number → IsNamed classes number name
class-named classes name number e = by (slice_get classes number) refl
  where
    there : option_map (λ (c : Class). c.name) (slice_get classes number) ≡ Some name
    there = sym (slice_get-map (λ (c : Class). c.name) classes number) ∙ number_in-at (class_names classes) name number (found (number_in (class_names classes) name) UnknownClass number e)

    by : (o : Option Class) → slice_get classes number ≡ o → IsNamed classes number name
    by None is = let wrong = sym (ap (λ (o : Option Class). option_map (λ (c : Class). c.name) o) is) ∙ there in absurd (cc)
    by (Some class) is =
        let same = sym (ap (λ (o : Option Class). option_map (λ (c : Class). c.name) o) is) ∙ there in
        record { class = class; at = is; named = cc; attributes = ap (λ (o : Option Class). option_map_or (λ (c : Class). c.attrs) o []) is }

-- a make is the one that is written
make-written : (classes : List Class) (name : ℕ) (sets : List (ℕ × Value)) (make : ℕ × List Value) → make_of classes name sets ≡ Ok make → IsWrittenMake classes (name, sets) make
make-written classes name sets make e =
    let c = passed (declared_class classes name) (λ class. values_of (attributes_at classes class) sets >>= λ values. Ok (class, values)) make e in
    let attrs = attributes_at classes c.0 in
    let v = passed (values_of attrs sets) (λ values. Ok (c.0, values)) make c.2 in
    let n = class-named classes name c.0 c.1 in
    let values = values-written attrs (replicate (length attrs) nil) sets v.0 v.1 in
    subst (λ (m : ℕ × List Value). IsWrittenMake classes (name, sets) m) (same_ok v.2)
    (record { class = n.class; numbered = n.at; named = n.named; values = values ∙ ap (λ (ns : List ℕ). written_values ns sets) n.attributes })

-- and stays so where more classes are declared
make-stays : (classes more : List Class) (w : WrittenMake) (make : ℕ × List Value) → IsWrittenMake classes w make → IsWrittenMake (classes ++ more) w make
make-stays classes more w make h = record { class = h.class; numbered = slice_get-front classes more make.0 h.class h.numbered; named = h.named; values = h.values }

-- the makes of a program so far
abbrev HasMakes : Program → List WrittenMake → Type 0
HasMakes p ws = AllZip (IsWrittenMake p.classes) ws p.makes

no_more : (p q : Program) (ws : List WrittenMake) → HasMakes p ws → q.classes ≡ p.classes → q.makes ≡ p.makes → HasMakes q (ws ++ [])
no_more p q ws h classes makes = rw (append-nil ws, classes, makes) h

with_class-keeps : (p : Program) (ws : List WrittenMake) (name : ℕ) (attrs : List ℕ) (classes : List Class) → HasMakes p ws → with_class p.classes name attrs ≡ Ok classes → HasMakes (record p { classes = classes }) ws
with_class-keeps p ws name attrs classes h e =
    let last : List ℕ → Result (List Class) CheckKind = λ own. Ok (p.classes ++ record { name = name; attrs = own } ∷ []) in
    let new = passed (not_yet_declared p.classes name) (λ _. few_classes p.classes >>= λ _. after_each with_attribute [] attrs >>= last) classes e in
    let few = passed (few_classes p.classes) (λ _. after_each with_attribute [] attrs >>= last) classes new.2 in
    let own = passed (after_each with_attribute [] attrs) last classes few.2 in
    let c : Class = record { name = name; attrs = own.0 } in
    subst (λ (cs : List Class). AllZip (IsWrittenMake cs) ws p.makes) (same_ok own.2)
    (zip_map (IsWrittenMake p.classes) (IsWrittenMake (p.classes ++ c ∷ [])) (make-stays p.classes (c ∷ [])) ws p.makes h)

-- one form more
with_form-keeps : (p : Program) (ws : List WrittenMake) (f : Form) (next : Program) → HasMakes p ws → with_form p f ≡ Ok next → HasMakes next (ws ++ make_in f)
with_form-keeps p ws (form.Literalize class attrs) next h e =
    let w = passed (with_class p.classes class attrs) (λ classes. Ok (record p { classes = classes })) next e in
    subst (λ (q : Program). HasMakes q (ws ++ [])) (same_ok w.2) (no_more (record p { classes = w.0 }) (record p { classes = w.0 }) ws (with_class-keeps p ws class attrs w.0 h w.1) refl refl)
with_form-keeps p ws (form.P name conds actions) next h e =
    let w = passed (with_rule p.classes p.rules name conds actions) (λ rules. Ok (record p { rules = rules })) next e in
    subst (λ (q : Program). HasMakes q (ws ++ [])) (same_ok w.2) (no_more p (record p { rules = w.0 }) ws h refl refl)
with_form-keeps p ws (form.Make class sets) next h e =
    let m = passed (make_of p.classes class sets) (λ make. Ok (record p { makes = p.makes ++ make ∷ [] })) next e in
    subst (λ (q : Program). HasMakes q (ws ++ (class, sets) ∷ [])) (same_ok m.2) (zip_push (IsWrittenMake p.classes) ws p.makes (class, sets) m.0 h (make-written p.classes class sets m.0 m.1))
with_form-keeps p ws (form.Strategy mea) next h e = subst (λ (q : Program). HasMakes q (ws ++ [])) (same_ok e) (no_more p p ws h refl refl)
with_form-keeps p ws (form.Watch level) next h e = subst (λ (q : Program). HasMakes q (ws ++ [])) (same_ok e) (no_more p p ws h refl refl)

forms-keep : (number : ℕ) (p : Program) (ws : List WrittenMake) (forms : List Form) (next : Program) → HasMakes p ws → after_forms with_form number p forms ≡ Ok next → HasMakes next (ws ++ written_makes forms)
forms-keep number p ws [] next h e = subst (λ (q : Program). HasMakes q (ws ++ [])) (same_ok e) (no_more p p ws h refl refl)
forms-keep number p ws (f ∷ forms) next h e =
    let w = passed (at_form number (with_form p f)) (λ q. after_forms with_form (number + 1) q forms) next e in
    let here = with_form-keeps p ws f w.0 h (at_form-passes number (with_form p f) w.0 w.1) in
    subst (λ (vs : List WrittenMake). HasMakes next vs) (append_assoc ws (make_in f) (written_makes forms)) (forms-keep (number + 1) w.0 (ws ++ make_in f) forms next here w.2)

-- a checked program has the makes that are written
pub checked-makes : (forms : List Form) (p : Program) → checked forms ≡ Ok p → AllZip (IsWrittenMake p.classes) (written_makes forms) p.makes
checked-makes forms p e = forms-keep 1 no_program [] forms p tt e

-- one tag more
tags-push : (first : ℕ) (elements : List Element) (last : Element) → last.tag ≡ first + length elements → AreConsecutive first (tags_of elements) → AreConsecutive first (tags_of (elements ++ last ∷ []))
tags-push first [] last tag h = (omega (arith, tag), tt)
tags-push first (e ∷ elements) last tag h = (h.0, tags-push (first + 1) elements last (omega (arith, tag)) h.1)

-- one element more
made-more : (classes : List Class) (ws : List WrittenMake) (elements : List Element) (w : WrittenMake) (make : ℕ × List Value) → AreWrittenElements classes ws elements → IsWrittenMake classes w make
    → AreWrittenElements classes (ws ++ w ∷ []) (with_made elements make)
made-more classes ws elements w make h is =
    let e : Element = record { tag = length elements + 1; class = make.0; values = make.1 } in
    record { made = zip_push (IsWrittenElement classes) ws elements w e h.made is; tagged = tags-push 1 elements e (omega arith) h.tagged }

-- the elements of makes
all-made : (classes : List Class) (front ws : List WrittenMake) (elements : List Element) (makes : List (ℕ × List Value)) → AreWrittenElements classes front elements → AllZip (IsWrittenMake classes) ws makes
    → AreWrittenElements classes (front ++ ws) (fold with_made elements makes)
all-made classes front [] elements [] h all = subst (λ (vs : List WrittenMake). AreWrittenElements classes vs elements) (sym (append-nil front)) h
all-made classes front [] elements (make ∷ makes) h all = absurd all
all-made classes front (w ∷ ws) elements [] h all = absurd all
all-made classes front (w ∷ ws) elements (make ∷ makes) h all =
    subst (λ (vs : List WrittenMake). AreWrittenElements classes vs (fold with_made (with_made elements make) makes)) (append_assoc front (w ∷ []) ws)
    (all-made classes (front ++ w ∷ []) ws (with_made elements make) makes (made-more classes front elements w make h all.0) all.1)

-- a form of a memory file
initial-made : (classes : List Class) (ws : List WrittenMake) (elements : List Element) (f : Form) (next : List Element) → AreWrittenElements classes ws elements → with_initial classes elements f ≡ Ok next → AreWrittenElements classes (ws ++ make_in f) next
initial-made classes ws elements (form.Make class sets) next h e =
    let m = passed (make_of classes class sets) (λ make. Ok (with_made elements make)) next e in
    subst (AreWrittenElements classes (ws ++ (class, sets) ∷ [])) (same_ok m.2) (made-more classes ws elements (class, sets) m.0 h (make-written classes class sets m.0 m.1))
initial-made classes ws elements (form.Literalize class attrs) next h e = absurd (cc)
initial-made classes ws elements (form.P name conds actions) next h e = absurd (cc)
initial-made classes ws elements (form.Strategy mea) next h e = absurd (cc)
initial-made classes ws elements (form.Watch level) next h e = absurd (cc)

memory-made : (classes : List Class) (number : ℕ) (ws : List WrittenMake) (elements : List Element) (memory : List Form) (last : List Element) → AreWrittenElements classes ws elements → after_forms (with_initial classes) number elements memory ≡ Ok last
    → AreWrittenElements classes (ws ++ written_makes memory) last
memory-made classes number ws elements [] last h e =
    subst (AreWrittenElements classes (ws ++ [])) (same_ok e) (subst (λ (vs : List WrittenMake). AreWrittenElements classes vs elements) (sym (append-nil ws)) h)
memory-made classes number ws elements (f ∷ memory) last h e =
    let w = passed (at_form number (with_initial classes elements f)) (λ next. after_forms (with_initial classes) (number + 1) next memory) last e in
    let here = initial-made classes ws elements f w.0 h (at_form-passes number (with_initial classes elements f) w.0 w.1) in
    subst (λ (vs : List WrittenMake). AreWrittenElements classes vs last) (append_assoc ws (make_in f) (written_makes memory)) (memory-made classes (number + 1) (ws ++ make_in f) w.0 memory last here w.2)

-- the opening memory has what is written
pub opening-made : (forms memory : List Form) (p : Program) (elements : List Element) → checked forms ≡ Ok p → opening_list p memory ≡ Ok elements → AreWrittenElements p.classes (written_makes forms ++ written_makes memory) elements
opening-made forms memory p elements e opens =
    let nothing : AreWrittenElements p.classes [] [] = record { made = tt; tagged = tt } in
    let made = all-made p.classes [] (written_makes forms) [] p.makes nothing (checked-makes forms p e) in
    memory-made p.classes 1 (written_makes forms) (fold with_made [] p.makes) memory elements made opens
