-- The changes of a firing are asked for: what goes is owned, and what comes falls into a region that its action grows.
use Rattle.std.proofs.Common.{◌≡◌, ℕ, zero, suc, ◌+◌, List, [], ◌∷◌, ◌++◌, Bool, true, false, not, if◌then◌else◌, Option, Some, None, Result, Ok, Err, ◌⊎◌, inl, inr, fold, replicate, slice_get, slice_set, unwrap_or, ◌==◌, refl, sym, ◌∙◌, ap, subst, true≢false}
use Rattle.std.specs.List.{list_any}
use Rattle.std.specs.Option.{option_map_or}
use Rattle.std.proofs.lemmas.Bool.Decides.{Decides-eqb}
use Rattle.rule_base.specs.declared.lock.Mode.{Mode}
use Rattle.rule_base.specs.declared.lock.Mode.TheVariants.{Grow, Own}
use Rattle.rule_base.specs.declared.value.Value.{Value}
use Rattle.rule_base.specs.declared.element.Element.{Element}
use Rattle.rule_base.specs.declared.condition.Cond.{Cond}
use Rattle.rule_base.specs.declared.action.Term.{Term}
use Rattle.rule_base.specs.declared.action.Term.TheVariants as term
use Rattle.rule_base.specs.declared.action.Action.{Action}
use Rattle.rule_base.specs.declared.action.Action.TheVariants as action
use Rattle.rule_base.specs.declared.change.Change.{Change}
use Rattle.rule_base.specs.declared.change.Change.TheVariants.{Remove, Make}
use Rattle.rule_base.specs.declared.change.Piece.{Piece}
use Rattle.rule_base.specs.declared.entry.FaultCause.{FaultCause}
use Rattle.rule_base.specs.declared.program.Rule.{Rule}
use Rattle.rule_base.specs.Chains.{only_if}
use Rattle.rule_base.specs.Value.{nil}
use Rattle.rule_base.specs.Bindings.{Bindings, bound, value_of}
use Rattle.rule_base.specs.Effect.{Progress, after_action, after_actions, after_modify, after_remove, changing, is_gone, modified, of_action, unless_gone}
use Rattle.rule_base.specs.Term.{after_sets, item_pieces, term_value}
use Rattle.rule_base.proofs.AmongLemmas.{Among, Among-map, list_any-among}
use Rattle.rule_base.proofs.EffectLemmas.{Gave-from_ok}
use Rattle.interference.specs.Locks.{region, stripe}
use Rattle.interference.specs.Given.{given, taken, value_at}
use Rattle.interference.specs.Regions.{grown_regions, known_after, region_locks, regions_by, sets, term_known}
use Rattle.interference.specs.Splits.{split_of}
use Rattle.interference.specs.Footprint.{designators}
use Rattle.interference.proofs.ListLemmas.{Among-append}
use Rattle.interference.proofs.OptionLemmas.{Gave-some, Held-some}
use Rattle.interference.proofs.BindingLemmas.{binding_of-bound, value_at-class}
use Rattle.interference.proofs.RegionLemmas.{IsSo}

-- a test that no element passes

pub none_passes : {X : Type 0} (p : X → Bool) (x : X) (xs : List X) (b : Bool) → p x ≡ b → Among x xs → list_any p xs ≡ false → b ≡ false
none_passes p x xs true is among none = absurd (true≢false (sym (list_any-among p x xs among is) ∙ none))
none_passes p x xs false is among none = refl

-- the element at the place of a list that was set, and at others
set_here : {X : Type 0} (xs : List X) (i : ℕ) (y x : X) → slice_get (slice_set xs i y) i ≡ Some x → x ≡ y
set_here [] i y x is = absurd (let wrong : ⊥ = cc in wrong)
set_here (z ∷ xs) zero y x is = cc
set_here (z ∷ xs) (suc i) y x is = set_here xs i y x is

set_elsewhere : {X : Type 0} (xs : List X) (i j : ℕ) (y : X) → (i ≡ j → ⊥) → slice_get (slice_set xs i y) j ≡ slice_get xs j
set_elsewhere [] i j y other = refl
set_elsewhere (z ∷ xs) zero zero y other = absurd (other refl)
set_elsewhere (z ∷ xs) zero (suc j) y other = refl
set_elsewhere (z ∷ xs) (suc i) zero y other = refl
set_elsewhere (z ∷ xs) (suc i) (suc j) y other = set_elsewhere xs i j y (λ same. other (ap suc same))

of_copies : {X : Type 0} (n : ℕ) (y x : X) (i : ℕ) → slice_get (replicate n y) i ≡ Some x → x ≡ y
of_copies zero y x i is = absurd (let wrong : ⊥ = cc in wrong)
of_copies (suc n) y x zero is = cc
of_copies (suc n) y x (suc i) is = of_copies n y x i is

differ_by : (n m : ℕ) → (n == m) ≡ false → n ≡ m → ⊥
differ_by n m apart same = true≢false (sym ((Decides-eqb n m).1 same) ∙ apart)

-- variables that no action sets have what is given to them
abbrev pub HasGiven : Rule → List Element → Bindings → Type 0
HasGiven rule elements b = (var : ℕ) (value : Value) → list_any (sets var) rule.actions ≡ false → given rule.conds elements var ≡ Some value → value_of b var ≡ value

not_true : (b : Bool) → not b ≡ true → b ≡ false
not_true true is = absurd (let wrong : ⊥ = cc in wrong)
not_true false is = refl

-- what is known of a term is what it gives
term_is_so : (rule : Rule) (elements : List Element) (b : Bindings) (t : Term) (value v : Value) → HasGiven rule elements b → term_known rule elements t ≡ Some value → term_value b t ≡ Ok v → v ≡ value
term_is_so rule elements b (term.Con c) value v has known gave = cc
term_is_so rule elements b (term.Var var) value v has known gave =
    let first = Gave-some (only_if (not (list_any (sets var) rule.actions)) var) (given rule.conds elements) value known in
    let held = Held-some (not (list_any (sets var) rule.actions)) var first.first first.is in
    let is : value_of b var ≡ value = has var value (not_true (list_any (sets var) rule.actions) held.holds) (ap (given rule.conds elements) held.same ∙ first.next_is) in
    let same : value_of b var ≡ v = cc in
    sym same ∙ is
term_is_so rule elements b (term.Compute expression) value v has known gave = absurd (let wrong : ⊥ = cc in wrong)

-- what is known after settings is so of the values after them
abbrev KnownIsSo : ℕ → Option Value → List Value → Type 0
KnownIsSo attr known values = (value x : Value) → known ≡ Some value → slice_get values attr ≡ Some x → x ≡ value

after_one : (rule : Rule) (elements : List Element) (b : Bindings) (attr : ℕ) (known : Option Value) (set : ℕ × Term) (values : List Value) (v : Value) (here : Bool) → (set.0 == attr) ≡ here → HasGiven rule elements b → KnownIsSo attr known values → term_value b set.1 ≡ Ok v → KnownIsSo attr (if here then term_known rule elements set.1 else known) (slice_set values set.0 v)
after_one rule elements b attr known set values v true is has so gave value x known_is at =
    let same : attr ≡ set.0 = sym ((Decides-eqb set.0 attr).0 is) in
    set_here values set.0 v x (ap (slice_get (slice_set values set.0 v)) (sym same) ∙ at) ∙ term_is_so rule elements b set.1 value v has known_is gave
after_one rule elements b attr known set values v false is has so gave value x known_is at =
    so value x known_is (sym (set_elsewhere values set.0 attr v (differ_by set.0 attr is)) ∙ at)

after_all : (rule : Rule) (elements : List Element) (b : Bindings) (attr : ℕ) (known : Option Value) (settings : List (ℕ × Term)) (values after : List Value) → HasGiven rule elements b → KnownIsSo attr known values → after_sets b settings values ≡ Ok after → KnownIsSo attr (known_after rule elements attr known settings) after
after_all rule elements b attr known [] values after has so ok = let same : values ≡ after = cc in subst (KnownIsSo attr known) same so
after_all rule elements b attr known (set ∷ settings) values after has so ok =
    let gave = Gave-from_ok (term_value b set.1) (λ value. after_sets b settings (slice_set values set.0 value)) after ok in
    after_all rule elements b attr (if set.0 == attr then term_known rule elements set.1 else known) settings (slice_set values set.0 gave.first) after has (after_one rule elements b attr known set values gave.first (set.0 == attr) refl has so gave.is) gave.next_is

-- what is made falls into regions that are grown
pub record IsGrown (splits : List (Option ℕ)) (demands : List (ℕ × Mode)) (class : ℕ) (values : List Value) : Type 0 where
  pub known : ℕ → Option Value
  pub so : IsSo known values
  pub grown : (number : ℕ) → Among number (regions_by (split_of splits class) known) → Among (region class number, Grow) demands

-- a change that is asked for
abbrev pub IsAskedFor : List (Option ℕ) → List (ℕ × Mode) → Change → Type 0
IsAskedFor splits demands (Remove tag) = Among (stripe tag, Own) demands
IsAskedFor splits demands (Make class values) = IsGrown splits demands class values

-- the element at a positive condition element is of its class
pub record IsPaired (pairs : List (Cond × Element)) (at : ℕ) (e : Element) : Type 0 where
  pub cond : Cond
  pub pair : slice_get pairs at ≡ Some (cond, e)
  pub class : cond.class ≡ e.class

-- demands that hold all that the actions of a rule ask for
pub record HoldDemands (splits : List (Option ℕ)) (rule : Rule) (elements : List Element) (demands : List (ℕ × Mode)) : Type 0 where
  pub owned : (a : Action) (at : ℕ) (e : Element) → Among a rule.actions → Among at (designators a) → slice_get elements at ≡ Some e → Among (stripe e.tag, Own) demands
  pub grown : (a : Action) (lock : ℕ) → Among a rule.actions → Among lock (grown_regions splits rule elements a) → Among (lock, Grow) demands
  pub paired : (at : ℕ) (e : Element) → slice_get elements at ≡ Some e → IsPaired (taken rule.conds elements) at e

-- how far a right-hand side has come, with nothing but what is asked for
record IsAsked (splits : List (Option ℕ)) (rule : Rule) (elements : List Element) (demands : List (ℕ × Mode)) (p : Progress) : Type 0 where
  changes : (change : Change) → Among change p.done.changes → IsAskedFor splits demands change
  given : HasGiven rule elements p.bindings

IsAsked-more : (splits : List (Option ℕ)) (rule : Rule) (elements : List Element) (demands : List (ℕ × Mode)) (p : Progress) (more : List Change) → IsAsked splits rule elements demands p → ((change : Change) → Among change more → IsAskedFor splits demands change) → IsAsked splits rule elements demands (changing p more)
IsAsked-more splits rule elements demands p more asked of_more = record {
  changes = λ change among. by_side change (Among-append change p.done.changes more among);
  given = asked.given;
}
  where
    by_side : (change : Change) → Among change p.done.changes ⊎ Among change more → IsAskedFor splits demands change
    by_side change (inl before) = asked.changes change before
    by_side change (inr new) = of_more change new

one_change : (splits : List (Option ℕ)) (demands : List (ℕ × Mode)) (only change : Change) → IsAskedFor splits demands only → Among change (only ∷ []) → IsAskedFor splits demands change
one_change splits demands only change asked (inl same) = subst (IsAskedFor splits demands) (sym same) asked
one_change splits demands only change asked (inr none) = absurd none

two_changes : (splits : List (Option ℕ)) (demands : List (ℕ × Mode)) (first second change : Change) → IsAskedFor splits demands first → IsAskedFor splits demands second → Among change (first ∷ second ∷ []) → IsAskedFor splits demands change
two_changes splits demands first second change asked asked_too (inl same) = subst (IsAskedFor splits demands) (sym same) asked
two_changes splits demands first second change asked asked_too (inr rest) = one_change splits demands second change asked_too rest

-- a make
made : (splits : List (Option ℕ)) (rule : Rule) (elements : List Element) (demands : List (ℕ × Mode)) (class size : ℕ) (settings : List (ℕ × Term)) (b : Bindings) (values : List Value) → HoldDemands splits rule elements demands → Among (action.Make class size settings) rule.actions → HasGiven rule elements b → after_sets b settings (replicate size nil) ≡ Ok values → IsGrown splits demands class values
made splits rule elements demands class size settings b values hold among has ok = record {
  known = λ attr. known_after rule elements attr (Some nil) settings;
  so = λ attr. after_all rule elements b attr (Some nil) settings (replicate size nil) values has (λ value x is at. let same : nil ≡ value = cc in of_copies size nil x attr at ∙ same) ok;
  grown = λ number of_region. hold.grown (action.Make class size settings) (region class number) among (Among-map (region class) number (regions_by (split_of splits class) (λ attr. known_after rule elements attr (Some nil) settings)) of_region);
}

-- a modify
remade : (splits : List (Option ℕ)) (rule : Rule) (elements : List Element) (demands : List (ℕ × Mode)) (at : ℕ) (e : Element) (settings : List (ℕ × Term)) (b : Bindings) (values : List Value) → HoldDemands splits rule elements demands → Among (action.Modify at settings) rule.actions → IsPaired (taken rule.conds elements) at e → HasGiven rule elements b → after_sets b settings e.values ≡ Ok values → IsGrown splits demands e.class values
remade splits rule elements demands at e settings b values hold among paired has ok =
    let pair : Cond × Element = (paired.cond, e) in
    let known : ℕ → Option Value = λ attr. known_after rule elements attr (value_at pair attr) settings in
    let class_is : (paired.cond.class == e.class) ≡ true = (Decides-eqb paired.cond.class e.class).1 paired.class in
    let regions_are : grown_regions splits rule elements (action.Modify at settings) ≡ region_locks splits paired.cond.class known =
    ap (λ o. option_map_or (λ (p : Cond × Element). region_locks splits p.0.class (λ attr. known_after rule elements attr (value_at p attr) settings)) o []) paired.pair in
    let here : (number : ℕ) → Among number (regions_by (split_of splits paired.cond.class) known) → Among (region paired.cond.class number, Grow) demands =
    λ number of_region. hold.grown (action.Modify at settings) (region paired.cond.class number) among (subst (Among (region paired.cond.class number)) (sym regions_are) (Among-map (region paired.cond.class) number (regions_by (split_of splits paired.cond.class) known) of_region)) in
    record {
      known = known;
      so = λ attr. after_all rule elements b attr (value_at pair attr) settings e.values values has (λ value x is at'. let same : Some x ≡ Some value = sym at' ∙ sym (value_at-class pair attr class_is) ∙ is in cc) ok;
      grown = subst (λ class. (number : ℕ) → Among number (regions_by (split_of splits class) known) → Among (region class number, Grow) demands) paired.class here;
    }

-- removals
removed : (splits : List (Option ℕ)) (rule : Rule) (elements : List Element) (demands : List (ℕ × Mode)) (p : Progress) (e : Element) (gone : Bool) → IsAsked splits rule elements demands p → Among (stripe e.tag, Own) demands → IsAsked splits rule elements demands (if gone then p else changing p (Remove e.tag ∷ []))
removed splits rule elements demands p e true asked owned = asked
removed splits rule elements demands p e false asked owned = IsAsked-more splits rule elements demands p (Remove e.tag ∷ []) asked (λ change among. one_change splits demands (Remove e.tag) change owned among)

removed_at : (splits : List (Option ℕ)) (rule : Rule) (elements : List Element) (demands : List (ℕ × Mode)) (p : Progress) (designated : Option Element) → IsAsked splits rule elements demands p → ((e : Element) → designated ≡ Some e → Among (stripe e.tag, Own) demands) → IsAsked splits rule elements demands (after_remove designated p)
removed_at splits rule elements demands p None asked owned = asked
removed_at splits rule elements demands p (Some e) asked owned = removed splits rule elements demands p e (is_gone e.tag p.done.changes) asked (owned e refl)

removed_all : (splits : List (Option ℕ)) (rule : Rule) (elements : List Element) (demands : List (ℕ × Mode)) (ats : List ℕ) (p : Progress) → IsAsked splits rule elements demands p → ((at : ℕ) (e : Element) → Among at ats → slice_get elements at ≡ Some e → Among (stripe e.tag, Own) demands) → IsAsked splits rule elements demands (fold (λ before at. after_remove (slice_get elements at) before) p ats)
removed_all splits rule elements demands [] p asked owned = asked
removed_all splits rule elements demands (at ∷ ats) p asked owned =
    removed_all splits rule elements demands ats (after_remove (slice_get elements at) p) (removed_at splits rule elements demands p (slice_get elements at) asked (λ e is. owned at e (inl refl) is)) (λ other e among is. owned other e (inr among) is)

-- a modify that isn't of an element that has gone
modified_by : (splits : List (Option ℕ)) (rule : Rule) (elements : List Element) (demands : List (ℕ × Mode)) (at : ℕ) (e : Element) (settings : List (ℕ × Term)) (p new : Progress) (gone : Bool) → HoldDemands splits rule elements demands → Among (action.Modify at settings) rule.actions → slice_get elements at ≡ Some e → IsAsked splits rule elements demands p → unless_gone gone (modified e settings p) ≡ Ok new → IsAsked splits rule elements demands new
modified_by splits rule elements demands at e settings p new true hold among is asked ok = absurd (let wrong : ⊥ = cc in wrong)
modified_by splits rule elements demands at e settings p new false hold among is asked ok =
    let next : List Value → Progress = λ values. changing p (Remove e.tag ∷ Make e.class values ∷ []) in
    let gave = Gave-from_ok (after_sets p.bindings settings e.values) (λ values. Ok (next values)) new ok in
    let same : next gave.first ≡ new = let last = gave.next_is in cc in
    let owned : Among (stripe e.tag, Own) demands = hold.owned (action.Modify at settings) at e among (inl refl) is in
    let grown = remade splits rule elements demands at e settings p.bindings gave.first hold among (hold.paired at e is) asked.given gave.is in
    subst (IsAsked splits rule elements demands) same (IsAsked-more splits rule elements demands p (Remove e.tag ∷ Make e.class gave.first ∷ []) asked (λ change among'. two_changes splits demands (Remove e.tag) (Make e.class gave.first) change owned grown among'))

modified_at : (splits : List (Option ℕ)) (rule : Rule) (elements : List Element) (demands : List (ℕ × Mode)) (at : ℕ) (designated : Option Element) (settings : List (ℕ × Term)) (p new : Progress) → HoldDemands splits rule elements demands → Among (action.Modify at settings) rule.actions → slice_get elements at ≡ designated → IsAsked splits rule elements demands p → after_modify designated settings p ≡ Ok new → IsAsked splits rule elements demands new
modified_at splits rule elements demands at None settings p new hold among is asked ok = absurd (let wrong : ⊥ = cc in wrong)
modified_at splits rule elements demands at (Some e) settings p new hold among is asked ok = modified_by splits rule elements demands at e settings p new (is_gone e.tag p.done.changes) hold among is asked ok

-- a bind changes only a variable that an action sets
HasGiven-bound : (rule : Rule) (elements : List Element) (b : Bindings) (var : ℕ) (t : Term) (value : Value) → Among (action.Bind var t) rule.actions → HasGiven rule elements b → HasGiven rule elements (bound b var value)
HasGiven-bound rule elements b var t value among has w x unset gave =
    let apart : (var == w) ≡ false = none_passes (sets w) (action.Bind var t) rule.actions (var == w) refl among unset in
    ap (λ o. unwrap_or o nil) (binding_of-bound b var w value (differ_by var w apart)) ∙ has w x unset gave

-- what did no change and left the bindings
IsAsked-same : (splits : List (Option ℕ)) (rule : Rule) (elements : List Element) (demands : List (ℕ × Mode)) (p next new : Progress) → IsAsked splits rule elements demands next → ◌≡◌ {A = Result Progress FaultCause} (Ok next) (Ok new) → IsAsked splits rule elements demands new
IsAsked-same splits rule elements demands p next new asked ok = let same : next ≡ new = cc in subst (IsAsked splits rule elements demands) same asked

-- one action
by_action : (splits : List (Option ℕ)) (rule : Rule) (elements : List Element) (demands : List (ℕ × Mode)) (first : Action) (p new : Progress) → HoldDemands splits rule elements demands → Among first rule.actions → IsAsked splits rule elements demands p → after_action elements first p ≡ Ok new → IsAsked splits rule elements demands new
by_action splits rule elements demands (action.Make class size settings) p new hold among asked ok =
    let next : List Value → Progress = λ values. changing p (Make class values ∷ []) in
    let gave = Gave-from_ok (after_sets p.bindings settings (replicate size nil)) (λ values. Ok (next values)) new ok in
    let grown = made splits rule elements demands class size settings p.bindings gave.first hold among asked.given gave.is in
    IsAsked-same splits rule elements demands p (next gave.first) new (IsAsked-more splits rule elements demands p (Make class gave.first ∷ []) asked (λ change among'. one_change splits demands (Make class gave.first) change grown among')) gave.next_is
by_action splits rule elements demands (action.Modify at settings) p new hold among asked ok = modified_at splits rule elements demands at (slice_get elements at) settings p new hold among refl asked ok
by_action splits rule elements demands (action.Remove ats) p new hold among asked ok =
    IsAsked-same splits rule elements demands p (fold (λ before at. after_remove (slice_get elements at) before) p ats) new (removed_all splits rule elements demands ats p asked (λ at e of_at is. hold.owned (action.Remove ats) at e among of_at is)) ok
by_action splits rule elements demands (action.Bind var t) p new hold among asked ok =
    let next : Value → Progress = λ value. record p { bindings = bound p.bindings var value } in
    let gave = Gave-from_ok (term_value p.bindings t) (λ value. Ok (next value)) new ok in
    IsAsked-same splits rule elements demands p (next gave.first) new (record { changes = asked.changes; given = HasGiven-bound rule elements p.bindings var t gave.first among asked.given }) gave.next_is
by_action splits rule elements demands (action.Write items) p new hold among asked ok =
    let next : List Piece → Progress = λ more. record p { done = record { changes = p.done.changes; pieces = p.done.pieces ++ more; halts = p.done.halts } } in
    let gave = Gave-from_ok (item_pieces p.bindings items) (λ more. Ok (next more)) new ok in
    IsAsked-same splits rule elements demands p (next gave.first) new (record { changes = asked.changes; given = asked.given }) gave.next_is
by_action splits rule elements demands action.Halt p new hold among asked ok =
    IsAsked-same splits rule elements demands p (record p { done = record { changes = p.done.changes; pieces = p.done.pieces; halts = true } }) new (record { changes = asked.changes; given = asked.given }) ok

of_action_ok : {A : Type 0} (number : ℕ) (r : Result A FaultCause) (a : A) → of_action number r ≡ Ok a → r ≡ Ok a
of_action_ok number (Ok b) a ok = let same : b ≡ a = cc in ap (λ c. Ok c) same
of_action_ok number (Err cause) a ok = absurd (let wrong : ⊥ = cc in wrong)

by_actions : (splits : List (Option ℕ)) (rule : Rule) (elements : List Element) (demands : List (ℕ × Mode)) (number : ℕ) (actions : List Action) (p new : Progress) → HoldDemands splits rule elements demands → ((a : Action) → Among a actions → Among a rule.actions) → IsAsked splits rule elements demands p → after_actions number elements actions p ≡ Ok new → IsAsked splits rule elements demands new
by_actions splits rule elements demands number [] p new hold among asked ok = let same : p ≡ new = cc in subst (IsAsked splits rule elements demands) same asked
by_actions splits rule elements demands number (first ∷ actions) p new hold among asked ok =
    let gave = Gave-from_ok (of_action number (after_action elements first p)) (after_actions (number + 1) elements actions) new ok in
    by_actions splits rule elements demands (number + 1) actions gave.first new hold (λ a of_actions. among a (inr of_actions)) (by_action splits rule elements demands first p gave.first hold (among first (inl refl)) asked (of_action_ok number (after_action elements first p) gave.first gave.is)) gave.next_is

-- each change of the actions is asked for, where they begin with bindings that have what is given
pub changes_are_asked_for : (splits : List (Option ℕ)) (rule : Rule) (elements : List Element) (demands : List (ℕ × Mode)) (p new : Progress) → HoldDemands splits rule elements demands → p.done.changes ≡ [] → HasGiven rule elements p.bindings → after_actions 1 elements rule.actions p ≡ Ok new → (change : Change) → Among change new.done.changes → IsAskedFor splits demands change
changes_are_asked_for splits rule elements demands p new hold nothing has ok =
    (by_actions splits rule elements demands 1 rule.actions p new hold (λ a among. among) (record { changes = λ change among. absurd (subst (Among change) nothing among); given = has }) ok).changes
