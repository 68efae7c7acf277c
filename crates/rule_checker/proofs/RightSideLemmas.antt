-- The actions of a rule that is checked are sound: one at a time.
use Rattle.std.proofs.Common.{◌≡◌, ℕ, ◌≤◌, ◌<◌, false, List, [], ◌∷◌, ◌++◌, Option, None, Some, Ok, length, fold, nat_le, slice_index, get_or, pos, negsuc, zero, suc, refl, sym, ap, ◌∙◌, subst, arith, length-append}
use Rattle.std.specs.Option.{option_map_or}
use Rattle.std.specs.List.{AllByRecursion}
use Rattle.std.proofs.lemmas.Grind.{fold-append}
use Rattle.std.proofs.lemmas.Option.{slice_get-get_or, get_or_from_slice_get}
use Rattle.rule_base.specs.declared.action.Term.{Term}
use Rattle.rule_base.specs.declared.action.Item.{Item}
use Rattle.rule_base.specs.declared.action.Action.{Action}
use Rattle.rule_base.specs.declared.action.Action.TheVariants as action
use Rattle.rule_base.specs.declared.program.Class.{Class}
use Rattle.rule_base.specs.Chains.{◌>>=◌}
use Rattle.rule_base.specs.Sound.{sizes_of, SoundTerm, SoundSets, SoundItem, SoundAction, SoundActions, known_after_action}
use Rattle.ops_reader.specs.declared.form.At.{At}
use Rattle.ops_reader.specs.declared.form.At.TheVariants as at
use Rattle.ops_reader.specs.declared.form.FormTerm.{FormTerm}
use Rattle.ops_reader.specs.declared.form.FormItem.{FormItem}
use Rattle.ops_reader.specs.declared.form.FormAction.{FormAction}
use Rattle.ops_reader.specs.declared.form.FormAction.TheVariants as form_action
use Rattle.ops_reader.specs.Shape.{IsShallowSet, IsShallowItem, IsAction}
use Rattle.rule_checker.specs.declared.refusal.CheckKind.TheVariants.{UnknownAttribute, BadDesignator, TooMany}
use Rattle.rule_checker.specs.declared.scope.Scope.{Scope}
use Rattle.rule_checker.specs.declared.left_side.Elements.{Elements}
use Rattle.rule_checker.specs.declared.right_side.RightSide.{RightSide}
use Rattle.rule_checker.specs.Names.{number_in, number_of}
use Rattle.rule_checker.specs.Walk.{refused_if, after_each}
use Rattle.rule_checker.specs.Classes.{declared_class, attributes_at, has_attribute}
use Rattle.rule_checker.specs.Scope.{variable_of, with_variable}
use Rattle.rule_checker.specs.Terms.{term_of, item_of, with_item}
use Rattle.rule_checker.specs.RightSide.{few_actions, known_designator, setting_of, with_setting, with_designator, make_action, attributes_of, modify_action, set_variable, with_plain_action, with_bind, after_action, with_action, right_side}
use Rattle.rule_checker.proofs.ListLemmas.{all_push, all_get}
use Rattle.rule_checker.proofs.NumberLemmas.{number_in-within}
use Rattle.rule_checker.proofs.ResultLemmas.{passed, kept, found, after_each-keeps, after_each-keeps_of}
use Rattle.rule_checker.proofs.ScopeLemmas.{IsScope, AreKnown-next, variable_of-known, with_variable-known}
use Rattle.rule_checker.proofs.ClassLemmas.{sizes_of-at, declared_class-size}
use Rattle.rule_checker.proofs.LeftSideLemmas.{nat_le-false}
use Rattle.rule_checker.proofs.TermLemmas.{term_of-sound, item_of-sound}

-- a setting of an attribute of the class, to values that are known
abbrev IsSetting : ℕ → ℕ → List ℕ → ℕ × Term → Type 0
IsSetting size vars known set = (set.0 < size) × SoundTerm vars known set.1

with_setting-keeps : (attrs : List ℕ) (known : List ℕ) (scope : Scope) (vars : ℕ) → IsScope known scope → scope.vars ≤ vars → (done : List (ℕ × Term)) (w : ℕ × FormTerm) (next : List (ℕ × Term)) → IsShallowSet w
    → AllByRecursion (IsSetting (length attrs) vars known) done → with_setting attrs scope done w ≡ Ok next → AllByRecursion (IsSetting (length attrs) vars known) next
with_setting-keeps attrs known scope vars is_scope room done w next shallow h e =
    let s = passed (setting_of attrs scope w) (λ set. Ok (done ++ set ∷ [])) next e in
    let a = passed (has_attribute attrs w.0) (λ attr. term_of scope w.1 >>= λ t. Ok (attr, t)) s.0 s.1 in
    let t = passed (term_of scope w.1) (λ t. Ok (a.0, t)) s.0 a.2 in
    let within = number_in-within attrs w.0 a.0 (found (number_in attrs w.0) UnknownAttribute a.0 a.1) in
    let set : (a.0, t.0) ≡ s.0 = let last = t.2 in cc in
    let same : done ++ s.0 ∷ [] ≡ next = let last = s.2 in cc in
    subst (AllByRecursion (IsSetting (length attrs) vars known)) same
    (all_push (IsSetting (length attrs) vars known) done s.0 h (subst (IsSetting (length attrs) vars known) set (within, term_of-sound known scope w.1 t.0 is_scope shallow t.1 vars room)))

settings-sound : (attrs : List ℕ) (known : List ℕ) (scope : Scope) (vars : ℕ) → IsScope known scope → scope.vars ≤ vars → (sets : List (ℕ × FormTerm)) (done : List (ℕ × Term)) → AllByRecursion IsShallowSet sets
    → after_each (with_setting attrs scope) [] sets ≡ Ok done → SoundSets (length attrs) vars known done
settings-sound attrs known scope vars is_scope room sets done shallow e =
    after_each-keeps_of (AllByRecursion (IsSetting (length attrs) vars known)) IsShallowSet (with_setting attrs scope) (with_setting-keeps attrs known scope vars is_scope room) [] sets done shallow tt e

-- what names stand for is within
number_of-within : (numbering : List (ℕ × ℕ)) (name number size : ℕ) → AllByRecursion (λ (e : ℕ × ℕ). e.1 < size) numbering → number_of numbering name ≡ Some number → number < size
number_of-within [] name number size h e = absurd (cc)
number_of-within (first ∷ rest) name number size h e = grind (arith, number_of-within rest name number size h.1)

known_designator-within : (elements : Elements) (w : At) (place : ℕ) → AllByRecursion (λ (e : ℕ × ℕ). e.1 < length elements.classes) elements.names → known_designator elements w ≡ Ok place → place < length elements.classes
known_designator-within elements (at.Number (pos zero)) place h e = absurd (cc)
known_designator-within elements (at.Number (pos (suc n))) place h e =
    let w = passed (refused_if (nat_le (length elements.classes) n) BadDesignator) (λ _. Ok n) place e in
    let same : n ≡ place = let last = w.2 in cc in
    subst (λ (k : ℕ). k < length elements.classes) same (nat_le-false (length elements.classes) n (kept (nat_le (length elements.classes) n) BadDesignator w.0 w.1))
known_designator-within elements (at.Number (negsuc n)) place h e = absurd (cc)
known_designator-within elements (at.Name name) place h e = number_of-within elements.names name place (length elements.classes) h (found (number_of elements.names name) BadDesignator place e)

with_designator-keeps : (elements : Elements) → AllByRecursion (λ (e : ℕ × ℕ). e.1 < length elements.classes) elements.names → (done : List ℕ) (w : At) (next : List ℕ) → AllByRecursion (λ place. place < length elements.classes) done
    → with_designator elements done w ≡ Ok next → AllByRecursion (λ place. place < length elements.classes) next
with_designator-keeps elements places done w next h e =
    let p = passed (known_designator elements w) (λ place. Ok (done ++ place ∷ [])) next e in
    let same : done ++ p.0 ∷ [] ≡ next = let last = p.2 in cc in
    subst (AllByRecursion (λ place. place < length elements.classes)) same (all_push (λ place. place < length elements.classes) done p.0 h (known_designator-within elements w p.0 places p.1))

with_item-keeps : (known : List ℕ) (scope : Scope) (vars : ℕ) → IsScope known scope → scope.vars ≤ vars → (done : List Item) (w : FormItem) (next : List Item) → IsShallowItem w → AllByRecursion (SoundItem vars known) done
    → with_item scope done w ≡ Ok next → AllByRecursion (SoundItem vars known) next
with_item-keeps known scope vars is_scope room done w next shallow h e =
    let i = passed (item_of scope w) (λ i. Ok (done ++ i ∷ [])) next e in
    let same : done ++ i.0 ∷ [] ≡ next = let last = i.2 in cc in
    subst (AllByRecursion (SoundItem vars known)) same (all_push (SoundItem vars known) done i.0 h (item_of-sound known scope w i.0 is_scope shallow i.1 vars room))

-- what holds of the actions so far, where `known` are the variables that the right-hand side begins with, and `least` is
-- how many variables the condition elements have
pub record IsRightSide (sizes positives known : List ℕ) (least : ℕ) (right : RightSide) : Type 0 where
  pub grown : least ≤ right.scope.vars
  pub few : length right.actions ≤ 64
  pub scope : IsScope (fold known_after_action known right.actions) right.scope
  pub sound : (vars : ℕ) → right.scope.vars ≤ vars → SoundActions sizes positives vars known right.actions

SoundActions-push : (sizes positives : List ℕ) (vars : ℕ) (known : List ℕ) (as' : List Action) (a : Action) → SoundActions sizes positives vars known as' → SoundAction sizes positives vars (fold known_after_action known as') a
    → SoundActions sizes positives vars known (as' ++ a ∷ [])
SoundActions-push sizes positives vars known [] a h last = (last, tt)
SoundActions-push sizes positives vars known (first ∷ as') a h last = (h.0, SoundActions-push sizes positives vars (known_after_action known first) as' a h.1 last)

plain-keeps : (sizes positives known : List ℕ) (least : ℕ) (right : RightSide) (a : Action) → IsRightSide sizes positives known least right → length right.actions < 64 → ((ns : List ℕ) → known_after_action ns a ≡ ns)
    → ((vars : ℕ) → right.scope.vars ≤ vars → SoundAction sizes positives vars (fold known_after_action known right.actions) a) → IsRightSide sizes positives known least (with_plain_action right a)
plain-keeps sizes positives known least right a h room plain sound =
    let same : fold known_after_action known (right.actions ++ a ∷ []) ≡ fold known_after_action known right.actions = fold-append known_after_action known right.actions (a ∷ []) ∙ plain (fold known_after_action known right.actions) in
    record {
      grown = h.grown;
      few = omega (arith, length-append right.actions (a ∷ []));
      scope = subst (λ (ns : List ℕ). IsScope ns right.scope) (sym same) h.scope;
      sound = λ vars more. SoundActions-push sizes positives vars known right.actions a (h.sound vars more) (sound vars more);
    }

binding-keeps : (sizes positives known : List ℕ) (least : ℕ) (right : RightSide) (t : Term) (var : ℕ) (scope : Scope) → IsRightSide sizes positives known least right → length right.actions < 64 → right.scope.vars ≤ scope.vars → var < scope.vars
    → IsScope (var ∷ fold known_after_action known right.actions) scope → ((vars : ℕ) → right.scope.vars ≤ vars → SoundTerm vars (fold known_after_action known right.actions) t)
    → IsRightSide sizes positives known least (record { actions = right.actions ++ action.Bind var t ∷ []; scope = scope })
binding-keeps sizes positives known least right t var scope h room grown within is_scope sound =
    let a = action.Bind var t in
    let now : fold known_after_action known (right.actions ++ a ∷ []) ≡ var ∷ fold known_after_action known right.actions = fold-append known_after_action known right.actions (a ∷ []) in
    record {
      grown = omega (arith, h.grown);
      few = omega (arith, length-append right.actions (a ∷ []));
      scope = subst (λ (ns : List ℕ). IsScope ns scope) (sym now) is_scope;
      sound = λ vars more. SoundActions-push sizes positives vars known right.actions a (h.sound vars (omega arith)) (omega arith, sound vars (omega arith));
    }

bind-keeps : (sizes positives known : List ℕ) (least : ℕ) (right : RightSide) (t : Term) (name : ℕ) (o : Option ℕ) → variable_of right.scope name ≡ o → IsRightSide sizes positives known least right → length right.actions < 64
    → ((vars : ℕ) → right.scope.vars ≤ vars → SoundTerm vars (fold known_after_action known right.actions) t) → IsRightSide sizes positives known least (with_bind right t (set_variable right.scope name o))
bind-keeps sizes positives known least right t name None is h room sound =
    let ns = fold known_after_action known right.actions in
    binding-keeps sizes positives known least right t right.scope.vars (with_variable false right.scope name) h room (omega arith) (omega arith) (with_variable-known false ns right.scope name h.scope) sound
bind-keeps sizes positives known least right t name (Some var) is h room sound =
    let ns = fold known_after_action known right.actions in
    let known_var = variable_of-known ns right.scope name var h.scope is in
    binding-keeps sizes positives known least right t var right.scope h room (omega arith) known_var.0
    (record { bound = AreKnown-next right.scope.vars ns var right.scope.bound h.scope.bound; local = AreKnown-next right.scope.vars ns var right.scope.local h.scope.local }) sound

-- the attributes of a designated element are as many as its class has
attributes_of-size : (classes : List Class) (elements : Elements) (place : ℕ) → AllByRecursion (λ class. class < length (sizes_of classes)) elements.classes → length (sizes_of classes) ≡ length classes → place < length elements.classes
    → length (attributes_of classes elements place) ≡ slice_index (sizes_of classes) (slice_index elements.classes place)
attributes_of-size classes elements place within count lt =
    let class = get_or elements.classes place 0 in
    let there = slice_get-get_or elements.classes place 0 lt in
    let is_class : class < length (sizes_of classes) = all_get (λ c. c < length (sizes_of classes)) elements.classes place class within there in
    let at = sizes_of-at classes class (omega arith) in
    ap (λ (o : Option ℕ). length (option_map_or (attributes_at classes) o [])) there
    ∙ sym (get_or_from_slice_get (sizes_of classes) class (length (attributes_at classes class)) 0 at)
    ∙ ap (slice_index (sizes_of classes)) (sym (get_or_from_slice_get elements.classes place class 0 there))

-- what the actions of a rule stand on
pub record IsGround (classes : List Class) (elements : Elements) : Type 0 where
  pub within : AllByRecursion (λ class. class < length (sizes_of classes)) elements.classes
  pub count : length (sizes_of classes) ≡ length classes
  pub places : AllByRecursion (λ (e : ℕ × ℕ). e.1 < length elements.classes) elements.names

after_action-keeps : (classes : List Class) (elements : Elements) (known : List ℕ) (least : ℕ) → IsGround classes elements → (right : RightSide) (w : FormAction) (next : RightSide) → IsAction w → length right.actions < 64
    → IsRightSide (sizes_of classes) elements.classes known least right → after_action classes elements right w ≡ Ok next → IsRightSide (sizes_of classes) elements.classes known least next
after_action-keeps classes elements known least ground right (form_action.Make name sets) next shallow room h e =
    let ns = fold known_after_action known right.actions in
    let m = passed (make_action classes right.scope name sets) (λ a. Ok (with_plain_action right a)) next e in
    let c = passed (declared_class classes name) (λ class. after_each (with_setting (attributes_at classes class) right.scope) [] sets >>= λ done. Ok (action.Make class (length (attributes_at classes class)) done)) m.0 m.1 in
    let attrs = attributes_at classes c.0 in
    let d = passed (after_each (with_setting attrs right.scope) [] sets) (λ done. Ok (action.Make c.0 (length attrs) done)) m.0 c.2 in
    let a = action.Make c.0 (length attrs) d.0 in
    let is : a ≡ m.0 = let last = d.2 in cc in
    let same : with_plain_action right m.0 ≡ next = let last = m.2 in cc in
    subst (IsRightSide (sizes_of classes) elements.classes known least) (ap (with_plain_action right) is ∙ same)
    (plain-keeps (sizes_of classes) elements.classes known least right a h room (λ ns. refl) (λ vars more. (declared_class-size classes name c.0 c.1, settings-sound attrs ns right.scope vars h.scope more sets d.0 shallow d.1)))
after_action-keeps classes elements known least ground right (form_action.Modify w sets) next shallow room h e =
    let ns = fold known_after_action known right.actions in
    let m = passed (modify_action classes elements right.scope w sets) (λ a. Ok (with_plain_action right a)) next e in
    let p = passed (known_designator elements w) (λ place. after_each (with_setting (attributes_of classes elements place) right.scope) [] sets >>= λ done. Ok (action.Modify place done)) m.0 m.1 in
    let attrs = attributes_of classes elements p.0 in
    let d = passed (after_each (with_setting attrs right.scope) [] sets) (λ done. Ok (action.Modify p.0 done)) m.0 p.2 in
    let a = action.Modify p.0 d.0 in
    let is : a ≡ m.0 = let last = d.2 in cc in
    let same : with_plain_action right m.0 ≡ next = let last = m.2 in cc in
    let lt = known_designator-within elements w p.0 ground.places p.1 in
    subst (IsRightSide (sizes_of classes) elements.classes known least) (ap (with_plain_action right) is ∙ same)
    (plain-keeps (sizes_of classes) elements.classes known least right a h room (λ ns. refl)
    (λ vars more. (lt, subst (λ (size : ℕ). SoundSets size vars ns d.0) (attributes_of-size classes elements p.0 ground.within ground.count lt) (settings-sound attrs ns right.scope vars h.scope more sets d.0 shallow d.1))))
after_action-keeps classes elements known least ground right (form_action.Remove places) next shallow room h e =
    let d = passed (after_each (with_designator elements) [] places) (λ done. Ok (with_plain_action right (action.Remove done))) next e in
    let same : with_plain_action right (action.Remove d.0) ≡ next = let last = d.2 in cc in
    let within = after_each-keeps (AllByRecursion (λ place. place < length elements.classes)) (with_designator elements) (with_designator-keeps elements ground.places) [] places d.0 tt d.1 in
    subst (IsRightSide (sizes_of classes) elements.classes known least) same (plain-keeps (sizes_of classes) elements.classes known least right (action.Remove d.0) h room (λ ns. refl) (λ vars more. within))
after_action-keeps classes elements known least ground right (form_action.Bind name value) next shallow room h e =
    let ns = fold known_after_action known right.actions in
    let t = passed (term_of right.scope value) (λ t. Ok (with_bind right t (set_variable right.scope name (variable_of right.scope name)))) next e in
    let same : with_bind right t.0 (set_variable right.scope name (variable_of right.scope name)) ≡ next = let last = t.2 in cc in
    subst (IsRightSide (sizes_of classes) elements.classes known least) same
    (bind-keeps (sizes_of classes) elements.classes known least right t.0 name (variable_of right.scope name) refl h room (λ vars more. term_of-sound ns right.scope value t.0 h.scope shallow t.1 vars more))
after_action-keeps classes elements known least ground right (form_action.Write items) next shallow room h e =
    let ns = fold known_after_action known right.actions in
    let d = passed (after_each (with_item right.scope) [] items) (λ done. Ok (with_plain_action right (action.Write done))) next e in
    let same : with_plain_action right (action.Write d.0) ≡ next = let last = d.2 in cc in
    subst (IsRightSide (sizes_of classes) elements.classes known least) same (plain-keeps (sizes_of classes) elements.classes known least right (action.Write d.0) h room (λ ns. refl)
    (λ vars more. after_each-keeps_of (AllByRecursion (SoundItem vars ns)) IsShallowItem (with_item right.scope) (with_item-keeps ns right.scope vars h.scope more) [] items d.0 shallow tt d.1))
after_action-keeps classes elements known least ground right form_action.Halt next shallow room h e =
    let same : with_plain_action right action.Halt ≡ next = cc in
    subst (IsRightSide (sizes_of classes) elements.classes known least) same (plain-keeps (sizes_of classes) elements.classes known least right action.Halt h room (λ ns. refl) (λ vars more. tt))

with_action-keeps : (classes : List Class) (elements : Elements) (known : List ℕ) (least : ℕ) → IsGround classes elements → (right : RightSide) (w : FormAction) (next : RightSide) → IsAction w
    → IsRightSide (sizes_of classes) elements.classes known least right → with_action classes elements right w ≡ Ok next → IsRightSide (sizes_of classes) elements.classes known least next
with_action-keeps classes elements known least ground right w next shallow h e =
    let few = passed (few_actions right) (λ _. after_action classes elements right w) next e in
    after_action-keeps classes elements known least ground right w next shallow (nat_le-false 64 (length right.actions) (kept (nat_le 64 (length right.actions)) TooMany few.0 few.1)) h few.2

-- a right-hand side that is checked
pub right_side-sound : (classes : List Class) (scope : Scope) (elements : Elements) (known : List ℕ) → IsGround classes elements → IsScope known scope → (written : List FormAction) (right : RightSide) → AllByRecursion IsAction written
    → right_side classes scope elements written ≡ Ok right → IsRightSide (sizes_of classes) elements.classes known scope.vars right
right_side-sound classes scope elements known ground is_scope written right shallow e =
    after_each-keeps_of (IsRightSide (sizes_of classes) elements.classes known scope.vars) IsAction (with_action classes elements) (with_action-keeps classes elements known scope.vars ground) (record { actions = []; scope = scope }) written right shallow
    (record { grown = omega arith; few = omega arith; scope = is_scope; sound = λ vars more. tt }) e
