-- A program that is checked is sound: one form at a time.
use Rattle.std.proofs.Common.{◌≡◌, ℕ, ◌+◌, ◌≤◌, ◌<◌, List, [], ◌∷◌, ◌++◌, Some, Result, Ok, Err, length, nat_le, replicate, slice_get, slice_set, sym, ap, ◌∙◌, subst, arith, length-append}
use Rattle.std.specs.List.{AllByRecursion}
use Rattle.std.proofs.lemmas.List.{length-map, map-append, length-set, length-replicate}
use Rattle.rule_base.specs.declared.value.Value.{Value}
use Rattle.rule_base.specs.declared.program.Class.{Class}
use Rattle.rule_base.specs.declared.program.Rule.{Rule}
use Rattle.rule_base.specs.declared.program.Program.{Program}
use Rattle.rule_base.specs.Chains.{◌>>=◌}
use Rattle.rule_base.specs.Value.{nil}
use Rattle.rule_base.specs.Sound.{sizes_of, known_after_conds, SoundActions, IsSoundRule, IsSound}
use Rattle.ops_reader.specs.declared.form.FormCond.{FormCond}
use Rattle.ops_reader.specs.declared.form.FormAction.{FormAction}
use Rattle.ops_reader.specs.declared.form.Form.{Form}
use Rattle.ops_reader.specs.declared.form.Form.TheVariants as form
use Rattle.ops_reader.specs.Shape.{IsAction, HasShape}
use Rattle.rule_checker.specs.declared.refusal.CheckKind.{CheckKind}
use Rattle.rule_checker.specs.declared.refusal.CheckKind.TheVariants.{TooMany}
use Rattle.rule_checker.specs.Walk.{after_each}
use Rattle.rule_checker.specs.Forms.{at_form, after_forms}
use Rattle.rule_checker.specs.Classes.{not_yet_declared, few_classes, new_attribute, few_attributes, with_attribute, with_class, declared_class, attributes_at, has_attribute}
use Rattle.rule_checker.specs.Makes.{with_value, values_of, make_of}
use Rattle.rule_checker.specs.LeftSide.{left_side}
use Rattle.rule_checker.specs.RightSide.{right_side}
use Rattle.rule_checker.specs.Rules.{new_rule_name, few_rules, rule_of, checked_rule, with_rule}
use Rattle.rule_checker.specs.Checked.{with_make, with_form, no_program, checked}
use Rattle.rule_checker.proofs.ListLemmas.{all_push, all_map, slice_get-front}
use Rattle.rule_checker.proofs.ResultLemmas.{passed, kept, after_each-keeps}
use Rattle.rule_checker.proofs.ScopeLemmas.{AreKnown}
use Rattle.rule_checker.proofs.ClassLemmas.{declared_class-size, positive_classes-within, IsSoundRule-more}
use Rattle.rule_checker.proofs.LeftSideLemmas.{nat_le-false, left_side-sound, left_side-begins}
use Rattle.rule_checker.proofs.RightSideLemmas.{right_side-sound}

-- one class more
declared-sound : (p : Program) (name : ℕ) (attrs : List ℕ) → IsSound p → length p.classes < 256 → length attrs ≤ 64 → IsSound (record p { classes = p.classes ++ record { name = name; attrs = attrs } ∷ [] })
declared-sound p name attrs h room size =
    let c : Class = record { name = name; attrs = attrs } in
    let sizes : sizes_of (p.classes ++ c ∷ []) ≡ sizes_of p.classes ++ length attrs ∷ [] = map-append (λ (d : Class). length d.attrs) p.classes (c ∷ []) in
    record {
      few_classes = omega (arith, length-append p.classes (c ∷ []));
      few_attributes = all_push (λ (d : Class). length d.attrs ≤ 64) p.classes c h.few_attributes size;
      few_rules = h.few_rules;
      sound_rules = subst (λ (ns : List ℕ). AllByRecursion (IsSoundRule ns) p.rules) (sym sizes) (all_map _ _ (IsSoundRule-more (sizes_of p.classes) (length attrs)) p.rules h.sound_rules);
      sound_makes = subst (λ (ns : List ℕ). AllByRecursion (λ (make : ℕ × List Value). slice_get ns make.0 ≡ Some (length make.1)) p.makes) (sym sizes)
          (all_map _ _ (λ make s. slice_get-front (sizes_of p.classes) (length attrs ∷ []) make.0 (length make.1) s) p.makes h.sound_makes);
    }

-- one attribute more
with_attribute-keeps : (attrs : List ℕ) (name : ℕ) (next : List ℕ) → length attrs ≤ 64 → with_attribute attrs name ≡ Ok next → length next ≤ 64
with_attribute-keeps attrs name next h e =
    let new = passed (new_attribute attrs name) (λ _. few_attributes attrs >>= λ _. Ok (attrs ++ name ∷ [])) next e in
    let few = passed (few_attributes attrs) (λ _. Ok (attrs ++ name ∷ [])) next new.2 in
    let room = nat_le-false 64 (length attrs) (kept (nat_le 64 (length attrs)) TooMany few.0 few.1) in
    let same : attrs ++ name ∷ [] ≡ next = let last = few.2 in cc in
    omega (arith, ap length same, length-append attrs (name ∷ []))

with_class-sound : (p : Program) (name : ℕ) (attrs : List ℕ) (classes : List Class) → IsSound p → with_class p.classes name attrs ≡ Ok classes → IsSound (record p { classes = classes })
with_class-sound p name attrs classes h e =
    let new = passed (not_yet_declared p.classes name) (λ _. few_classes p.classes >>= λ _. after_each with_attribute [] attrs >>= λ own. Ok (p.classes ++ record { name = name; attrs = own } ∷ [])) classes e in
    let few = passed (few_classes p.classes) (λ _. after_each with_attribute [] attrs >>= λ own. Ok (p.classes ++ record { name = name; attrs = own } ∷ [])) classes new.2 in
    let own = passed (after_each with_attribute [] attrs) (λ own. Ok (p.classes ++ record { name = name; attrs = own } ∷ [])) classes few.2 in
    let room = nat_le-false 256 (length p.classes) (kept (nat_le 256 (length p.classes)) TooMany few.0 few.1) in
    let size = after_each-keeps (λ (ns : List ℕ). length ns ≤ 64) with_attribute with_attribute-keeps [] attrs own.0 (omega arith) own.1 in
    let same : p.classes ++ record { name = name; attrs = own.0 } ∷ [] ≡ classes = let last = own.2 in cc in
    subst (λ (cs : List Class). IsSound (record p { classes = cs })) same (declared-sound p name own.0 h room size)

-- a setting keeps the number of values
with_value-keeps : (attrs : List ℕ) (values : List Value) (set : ℕ × Value) (next : List Value) → length values ≡ length attrs → with_value attrs values set ≡ Ok next → length next ≡ length attrs
with_value-keeps attrs values set next h e =
    let w = passed (has_attribute attrs set.0) (λ attr. Ok (slice_set values attr set.1)) next e in
    let same : slice_set values w.0 set.1 ≡ next = let last = w.2 in cc in
    sym (ap length same) ∙ length-set values w.0 set.1 ∙ h

-- a make has a value for each attribute of its class
pub make_of-size : (classes : List Class) (name : ℕ) (sets : List (ℕ × Value)) (make : ℕ × List Value) → make_of classes name sets ≡ Ok make → slice_get (sizes_of classes) make.0 ≡ Some (length make.1)
make_of-size classes name sets make e =
    let c = passed (declared_class classes name) (λ class. values_of (attributes_at classes class) sets >>= λ values. Ok (class, values)) make e in
    let attrs = attributes_at classes c.0 in
    let v = passed (values_of attrs sets) (λ values. Ok (c.0, values)) make c.2 in
    let size : length v.0 ≡ length attrs = after_each-keeps (λ (values : List Value). length values ≡ length attrs) (with_value attrs) (with_value-keeps attrs) (replicate (length attrs) nil) sets v.0 (length-replicate (length attrs) nil) v.1 in
    let same : (c.0, v.0) ≡ make = let last = v.2 in cc in
    subst (λ (m : ℕ × List Value). slice_get (sizes_of classes) m.0 ≡ Some (length m.1)) same (declared_class-size classes name c.0 c.1 ∙ ap Some (sym size))

with_make-sound : (p : Program) (class : ℕ) (sets : List (ℕ × Value)) (next : Program) → IsSound p → with_make p class sets ≡ Ok next → IsSound next
with_make-sound p class sets next h e =
    let m = passed (make_of p.classes class sets) (λ make. Ok (record p { makes = p.makes ++ make ∷ [] })) next e in
    let same : record p { makes = p.makes ++ m.0 ∷ [] } ≡ next = let last = m.2 in cc in
    subst IsSound same (record {
      few_classes = h.few_classes;
      few_attributes = h.few_attributes;
      few_rules = h.few_rules;
      sound_rules = h.sound_rules;
      sound_makes = all_push (λ (make : ℕ × List Value). slice_get (sizes_of p.classes) make.0 ≡ Some (length make.1)) p.makes m.0 h.sound_makes (make_of-size p.classes class sets m.0 m.1);
    })

-- a rule that is checked
checked_rule-sound : (classes : List Class) (name : ℕ) (conds : List FormCond) (actions : List FormAction) (rule : Rule) → 0 < length conds → AllByRecursion IsAction actions → checked_rule classes name conds actions ≡ Ok rule → IsSoundRule (sizes_of classes) rule
checked_rule-sound classes name conds actions rule some shallow e =
    let l = passed (left_side classes conds) (λ left. right_side classes left.scope left.elements actions >>= λ right. Ok (rule_of name left right)) rule e in
    let left = l.0 in
    let r = passed (right_side classes left.scope left.elements actions) (λ right. Ok (rule_of name left right)) rule l.2 in
    let right = r.0 in
    let sizes = sizes_of classes in
    let known = known_after_conds [] left.conds in
    let ls = left_side-sound classes conds left l.1 in
    let within = positive_classes-within sizes left.scope.vars [] left.conds (ls.sound left.scope.vars (omega arith)) in
    let rs = right_side-sound classes left.scope left.elements known
    (record { within = subst (AllByRecursion (λ class. class < length sizes)) (sym ls.elements) within; count = length-map classes (λ (c : Class). length c.attrs); places = ls.places })
    (record { bound = ls.valued; local = subst (AreKnown left.scope.vars known) (sym ls.outside) tt }) actions right shallow r.1 in
    let same : rule_of name left right ≡ rule = let last = r.2 in cc in
    subst (IsSoundRule sizes) same (record {
      few_conds = ls.few;
      few_actions = rs.few;
      positive_count = ap length ls.elements;
      first_positive = ls.begins (left_side-begins classes conds left some l.1);
      bound_once = ls.bound_once;
      sound_conds = ls.sound right.scope.vars (rs.grown);
      sound_actions = subst (λ (cs : List ℕ). SoundActions sizes cs right.scope.vars known right.actions) ls.elements (rs.sound right.scope.vars (omega arith));
    })

-- one rule more
with_rule-sound : (p : Program) (name : ℕ) (conds : List FormCond) (actions : List FormAction) (rules : List Rule) → IsSound p → 0 < length conds → AllByRecursion IsAction actions
    → with_rule p.classes p.rules name conds actions ≡ Ok rules → IsSound (record p { rules = rules })
with_rule-sound p name conds actions rules h some shallow e =
    let new = passed (new_rule_name p.rules name) (λ _. few_rules p.rules >>= λ _. checked_rule p.classes name conds actions >>= λ rule. Ok (p.rules ++ rule ∷ [])) rules e in
    let few = passed (few_rules p.rules) (λ _. checked_rule p.classes name conds actions >>= λ rule. Ok (p.rules ++ rule ∷ [])) rules new.2 in
    let r = passed (checked_rule p.classes name conds actions) (λ rule. Ok (p.rules ++ rule ∷ [])) rules few.2 in
    let room = nat_le-false 4096 (length p.rules) (kept (nat_le 4096 (length p.rules)) TooMany few.0 few.1) in
    let same : p.rules ++ r.0 ∷ [] ≡ rules = let last = r.2 in cc in
    subst (λ (rs : List Rule). IsSound (record p { rules = rs })) same (record {
      few_classes = h.few_classes;
      few_attributes = h.few_attributes;
      few_rules = omega (arith, length-append p.rules (r.0 ∷ []));
      sound_rules = all_push (IsSoundRule (sizes_of p.classes)) p.rules r.0 h.sound_rules (checked_rule-sound p.classes name conds actions r.0 some shallow r.1);
      sound_makes = h.sound_makes;
    })

-- one form more
with_form-sound : (p : Program) (f : Form) (next : Program) → IsSound p → HasShape f → with_form p f ≡ Ok next → IsSound next
with_form-sound p (form.Literalize class attrs) next h shape e =
    let w = passed (with_class p.classes class attrs) (λ classes. Ok (record p { classes = classes })) next e in
    let same : record p { classes = w.0 } ≡ next = let last = w.2 in cc in
    subst IsSound same (with_class-sound p class attrs w.0 h w.1)
with_form-sound p (form.P name conds actions) next h shape e =
    let w = passed (with_rule p.classes p.rules name conds actions) (λ rules. Ok (record p { rules = rules })) next e in
    let same : record p { rules = w.0 } ≡ next = let last = w.2 in cc in
    subst IsSound same (with_rule-sound p name conds actions w.0 h shape.0 shape.2 w.1)
with_form-sound p (form.Make class sets) next h shape e = with_make-sound p class sets next h e
with_form-sound p (form.Strategy mea) next h shape e = let same : p ≡ next = cc in subst IsSound same h
with_form-sound p (form.Watch level) next h shape e = let same : p ≡ next = cc in subst IsSound same h

-- what passes at a form passes
pub at_form-passes : {A : Type 0} (number : ℕ) (defined : Result A CheckKind) (a : A) → at_form number defined ≡ Ok a → defined ≡ Ok a
at_form-passes number (Ok x) a e = let same : x ≡ a = cc in ap Ok same
at_form-passes number (Err kind) a e = absurd (cc)

forms-sound : (number : ℕ) (p : Program) (forms : List Form) (next : Program) → IsSound p → AllByRecursion HasShape forms → after_forms with_form number p forms ≡ Ok next → IsSound next
forms-sound number p [] next h shaped e = let same : p ≡ next = cc in subst IsSound same h
forms-sound number p (f ∷ forms) next h shaped e =
    let w = passed (at_form number (with_form p f)) (λ q. after_forms with_form (number + 1) q forms) next e in
    forms-sound (number + 1) w.0 forms next (with_form-sound p f w.0 h shaped.0 (at_form-passes number (with_form p f) w.0 w.1)) shaped.1 w.2

-- a checked program is sound
pub checked-sound : (forms : List Form) (p : Program) → AllByRecursion HasShape forms → checked forms ≡ Ok p → IsSound p
checked-sound forms p shaped e = forms-sound 1 no_program forms p (record { few_classes = omega arith; few_attributes = tt; few_rules = omega arith; sound_rules = tt; sound_makes = tt }) shaped e
