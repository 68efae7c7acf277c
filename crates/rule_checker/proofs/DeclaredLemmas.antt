-- A checked program has what its forms declare: one form at a time.
use Rattle.std.proofs.Common.{◌≡◌, ℕ, ◌+◌, true, List, [], ◌∷◌, ◌++◌, Some, Result, Ok, get_or, map, nat_eq, slice_get, refl, sym, ap, ◌∙◌, subst, arith, append_assoc, append-nil}
use Rattle.std.specs.List.{flat_map}
use Rattle.std.proofs.lemmas.List.{map-append}
use Rattle.std.proofs.lemmas.List.Quantifiers.{position-Some}
use Rattle.std.proofs.lemmas.Option.{slice_get-get_or}
use Rattle.std.proofs.lemmas.Bool.Decides.{nat_tests}
use Rattle.rule_base.specs.declared.value.Value.{Value}
use Rattle.rule_base.specs.declared.program.Class.{Class}
use Rattle.rule_base.specs.declared.program.Rule.{Rule}
use Rattle.rule_base.specs.declared.program.Program.{Program}
use Rattle.rule_base.specs.Chains.{◌>>=◌}
use Rattle.ops_reader.specs.declared.form.FormCond.{FormCond}
use Rattle.ops_reader.specs.declared.form.FormAction.{FormAction}
use Rattle.ops_reader.specs.declared.form.Form.{Form}
use Rattle.ops_reader.specs.declared.form.Form.TheVariants as form
use Rattle.rule_checker.specs.declared.refusal.CheckKind.TheVariants.{UnknownClass}
use Rattle.rule_checker.specs.Names.{number_in}
use Rattle.rule_checker.specs.Walk.{after_each}
use Rattle.rule_checker.specs.Forms.{at_form, after_forms}
use Rattle.rule_checker.specs.Classes.{class_names, not_yet_declared, few_classes, new_attribute, few_attributes, with_attribute, with_class, declared_class, attributes_at}
use Rattle.rule_checker.specs.Makes.{values_of, make_of}
use Rattle.rule_checker.specs.LeftSide.{left_side}
use Rattle.rule_checker.specs.RightSide.{right_side}
use Rattle.rule_checker.specs.Rules.{rule_names, new_rule_name, few_rules, rule_of, checked_rule, with_rule}
use Rattle.rule_checker.specs.Checked.{with_form, no_program, checked}
use Rattle.rule_checker.specs.Declares.{class_in, rule_name_in, made_class_in, made_classes, DeclaresAll}
use Rattle.rule_checker.proofs.ListLemmas.{slice_get-front}
use Rattle.rule_checker.proofs.ResultLemmas.{passed, found, same_ok}
use Rattle.rule_checker.proofs.CheckedLemmas.{at_form-passes}

-- a later program has what an earlier one has, and these classes, rules and makes
record Adds (p : Program) (classes : List Class) (rules makes : List ℕ) (q : Program) : Type 0 where
  all_classes : q.classes ≡ p.classes ++ classes
  all_rules : rule_names q.rules ≡ rule_names p.rules ++ rules
  all_makes : (names : List ℕ) → made_classes p ≡ map Some names → made_classes q ≡ map Some (names ++ makes)

-- what one form adds, and what several do
abbrev AddsForm : Program → Form → Program → Type 0
AddsForm p f q = Adds p (class_in f) (rule_name_in f) (made_class_in f) q

abbrev AddsForms : Program → List Form → Program → Type 0
AddsForms p forms q = Adds p (flat_map class_in forms) (flat_map rule_name_in forms) (flat_map made_class_in forms) q

unchanged : (p q : Program) → q ≡ p → Adds p [] [] [] q
unchanged p q same = record {
  all_classes = ap (λ (x : Program). x.classes) same ∙ sym (append-nil p.classes);
  all_rules = ap (λ (x : Program). rule_names x.rules) same ∙ sym (append-nil (rule_names p.rules));
  all_makes = λ names made. ap made_classes same ∙ made ∙ ap (map Some) (sym (append-nil names));
}

-- one attribute more
with_attribute-adds : (done : List ℕ) (name : ℕ) (next : List ℕ) → with_attribute done name ≡ Ok next → done ++ name ∷ [] ≡ next
with_attribute-adds done name next e =
    let new = passed (new_attribute done name) (λ _. few_attributes done >>= λ _. Ok (done ++ name ∷ [])) next e in
    let few = passed (few_attributes done) (λ _. Ok (done ++ name ∷ [])) next new.2 in
    same_ok few.2

attributes-are : (done attrs own : List ℕ) → after_each with_attribute done attrs ≡ Ok own → own ≡ done ++ attrs
attributes-are done [] own e = sym (same_ok e) ∙ sym (append-nil done)
attributes-are done (name ∷ attrs) own e =
    let w = passed (with_attribute done name) (λ next. after_each with_attribute next attrs) own e in
    attributes-are w.0 attrs own w.2
    ∙ ap (λ front. front ++ attrs) (sym (with_attribute-adds done name w.0 w.1))
    ∙ append_assoc done (name ∷ []) attrs

-- one class more
with_class-adds : (classes : List Class) (name : ℕ) (attrs : List ℕ) (next : List Class) → with_class classes name attrs ≡ Ok next → next ≡ classes ++ record { name = name; attrs = attrs } ∷ []
with_class-adds classes name attrs next e =
    let last : List ℕ → Result (List Class) _ = λ own. Ok (classes ++ record { name = name; attrs = own } ∷ []) in
    let new = passed (not_yet_declared classes name) (λ _. few_classes classes >>= λ _. after_each with_attribute [] attrs >>= last) next e in
    let few = passed (few_classes classes) (λ _. after_each with_attribute [] attrs >>= last) next new.2 in
    let own = passed (after_each with_attribute [] attrs) last next few.2 in
    sym (same_ok own.2) ∙ ap (λ own'. classes ++ record { name = name; attrs = own' } ∷ []) (attributes-are [] attrs own.0 own.1)

-- one rule more
checked_rule-name : (classes : List Class) (name : ℕ) (conds : List FormCond) (actions : List FormAction) (rule : Rule) → checked_rule classes name conds actions ≡ Ok rule → rule.name ≡ name
checked_rule-name classes name conds actions rule e =
    let l = passed (left_side classes conds) (λ left. right_side classes left.scope left.elements actions >>= λ right. Ok (rule_of name left right)) rule e in
    let r = passed (right_side classes l.0.scope l.0.elements actions) (λ right. Ok (rule_of name l.0 right)) rule l.2 in
    sym (ap (λ (x : Rule). x.name) (same_ok r.2))

with_rule-adds : (classes : List Class) (rules : List Rule) (name : ℕ) (conds : List FormCond) (actions : List FormAction) (next : List Rule) → with_rule classes rules name conds actions ≡ Ok next → rule_names next ≡ rule_names rules ++ name ∷ []
with_rule-adds classes rules name conds actions next e =
    let new = passed (new_rule_name rules name) (λ _. few_rules rules >>= λ _. checked_rule classes name conds actions >>= λ rule. Ok (rules ++ rule ∷ [])) next e in
    let few = passed (few_rules rules) (λ _. checked_rule classes name conds actions >>= λ rule. Ok (rules ++ rule ∷ [])) next new.2 in
    let r = passed (checked_rule classes name conds actions) (λ rule. Ok (rules ++ rule ∷ [])) next few.2 in
    ap rule_names (sym (same_ok r.2))
    ∙ map-append (λ (x : Rule). x.name) rules (r.0 ∷ [])
    ∙ ap (λ n. rule_names rules ++ n ∷ []) (checked_rule-name classes name conds actions r.0 r.1)

-- a class more leaves the makes those of the same names
names-front : (known : List ℕ) (more : List ℕ) (makes : List (ℕ × List Value)) (names : List ℕ) → map (λ (make : ℕ × List Value). slice_get known make.0) makes ≡ map Some names
    → map (λ (make : ℕ × List Value). slice_get (known ++ more) make.0) makes ≡ map Some names
names-front known more [] names e = e
names-front known more (make ∷ makes) [] e = absurd (cc)
names-front known more (make ∷ makes) (name ∷ names) e =
    let first : slice_get known make.0 ≡ Some name = cc in
    let others : map (λ (m : ℕ × List Value). slice_get known m.0) makes ≡ map Some names = cc in
    let here = slice_get-front known more make.0 name first in
    let there = names-front known more makes names others in
    cc

made_classes-more : (p : Program) (c : Class) (names : List ℕ) → made_classes p ≡ map Some names → made_classes (record p { classes = p.classes ++ c ∷ [] }) ≡ map Some names
made_classes-more p c names made =
    ap (λ known. map (λ (make : ℕ × List Value). slice_get known make.0) p.makes) (map-append (λ (d : Class). d.name) p.classes (c ∷ []))
    ∙ names-front (class_names p.classes) (c.name ∷ []) p.makes names made

-- one make more
equal_numbers : (m n : ℕ) → nat_eq m n ≡ true → m ≡ n
equal_numbers m n h = grind (arith, nat_tests)

number_in-at : (names : List ℕ) (name number : ℕ) → number_in names name ≡ Some number → slice_get names number ≡ Some name
number_in-at names name number e =
    let at = position-Some (nat_eq name) names number 0 e in
    let same : name ≡ get_or names number 0 = equal_numbers name (get_or names number 0) at.1 in
    slice_get-get_or names number 0 at.0 ∙ ap Some (sym same)

make_of-class : (classes : List Class) (name : ℕ) (sets : List (ℕ × Value)) (make : ℕ × List Value) → make_of classes name sets ≡ Ok make → slice_get (class_names classes) make.0 ≡ Some name
make_of-class classes name sets make e =
    let c = passed (declared_class classes name) (λ class. values_of (attributes_at classes class) sets >>= λ values. Ok (class, values)) make e in
    let v = passed (values_of (attributes_at classes c.0) sets) (λ values. Ok (c.0, values)) make c.2 in
    let there = number_in-at (class_names classes) name c.0 (found (number_in (class_names classes) name) UnknownClass c.0 c.1) in
    subst (λ (m : ℕ × List Value). slice_get (class_names classes) m.0 ≡ Some name) (same_ok v.2) there

with_make-made : (p : Program) (class : ℕ) (make : ℕ × List Value) (names : List ℕ) → made_classes p ≡ map Some names → slice_get (class_names p.classes) make.0 ≡ Some class
    → made_classes (record p { makes = p.makes ++ make ∷ [] }) ≡ map Some (names ++ class ∷ [])
with_make-made p class make names made there =
    map-append (λ (m : ℕ × List Value). slice_get (class_names p.classes) m.0) p.makes (make ∷ [])
    ∙ ap (λ front. front ++ slice_get (class_names p.classes) make.0 ∷ []) made
    ∙ ap (λ last. map Some names ++ last ∷ []) there
    ∙ sym (map-append Some names (class ∷ []))

-- one form more
with_form-adds : (p : Program) (f : Form) (next : Program) → with_form p f ≡ Ok next → AddsForm p f next
with_form-adds p (form.Literalize class attrs) next e =
    let w = passed (with_class p.classes class attrs) (λ classes. Ok (record p { classes = classes })) next e in
    let same = sym (same_ok w.2) in
    record {
      all_classes = ap (λ (q : Program). q.classes) same ∙ with_class-adds p.classes class attrs w.0 w.1;
      all_rules = ap (λ (q : Program). rule_names q.rules) same ∙ sym (append-nil (rule_names p.rules));
      all_makes = λ names made. ap made_classes same
          ∙ ap (λ classes. made_classes (record p { classes = classes })) (with_class-adds p.classes class attrs w.0 w.1)
          ∙ made_classes-more p (record { name = class; attrs = attrs }) names made ∙ ap (map Some) (sym (append-nil names));
    }
with_form-adds p (form.P name conds actions) next e =
    let w = passed (with_rule p.classes p.rules name conds actions) (λ rules. Ok (record p { rules = rules })) next e in
    let same = sym (same_ok w.2) in
    record {
      all_classes = ap (λ (q : Program). q.classes) same ∙ sym (append-nil p.classes);
      all_rules = ap (λ (q : Program). rule_names q.rules) same ∙ with_rule-adds p.classes p.rules name conds actions w.0 w.1;
      all_makes = λ names made. ap made_classes same ∙ made ∙ ap (map Some) (sym (append-nil names));
    }
with_form-adds p (form.Make class sets) next e =
    let w = passed (make_of p.classes class sets) (λ make. Ok (record p { makes = p.makes ++ make ∷ [] })) next e in
    let same = sym (same_ok w.2) in
    record {
      all_classes = ap (λ (q : Program). q.classes) same ∙ sym (append-nil p.classes);
      all_rules = ap (λ (q : Program). rule_names q.rules) same ∙ sym (append-nil (rule_names p.rules));
      all_makes = λ names made. ap made_classes same ∙ with_make-made p class w.0 names made (make_of-class p.classes class sets w.0 w.1);
    }
with_form-adds p (form.Strategy mea) next e = unchanged p next (sym (same_ok e))
with_form-adds p (form.Watch level) next e = unchanged p next (sym (same_ok e))

-- all forms
forms-add : (number : ℕ) (p : Program) (forms : List Form) (q : Program) → after_forms with_form number p forms ≡ Ok q → AddsForms p forms q
forms-add number p [] q e = unchanged p q (sym (same_ok e))
forms-add number p (f ∷ fs) q e =
    let w = passed (at_form number (with_form p f)) (λ next. after_forms with_form (number + 1) next fs) q e in
    let one = with_form-adds p f w.0 (at_form-passes number (with_form p f) w.0 w.1) in
    let rest = forms-add (number + 1) w.0 fs q w.2 in
    record {
      all_classes = rest.all_classes ∙ ap (λ classes. classes ++ flat_map class_in fs) one.all_classes ∙ append_assoc p.classes (class_in f) (flat_map class_in fs);
      all_rules = rest.all_rules ∙ ap (λ rules. rules ++ flat_map rule_name_in fs) one.all_rules ∙ append_assoc (rule_names p.rules) (rule_name_in f) (flat_map rule_name_in fs);
      all_makes = λ names made. rest.all_makes (names ++ made_class_in f) (one.all_makes names made)
          ∙ ap (map Some) (append_assoc names (made_class_in f) (flat_map made_class_in fs));
    }

pub checked-declares : (forms : List Form) (p : Program) → checked forms ≡ Ok p → DeclaresAll forms p
checked-declares forms p e =
    let adds = forms-add 1 no_program forms p e in
    record { classes = adds.all_classes; rules = adds.all_rules; makes = adds.all_makes [] refl }
