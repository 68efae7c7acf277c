-- The changes of an effect: those of a sound rule make elements with as many values as their class, at most one for
-- each action.
use Rattle.std.proofs.Common.{◌≡◌, ℕ, ◌+◌, ◌≤◌, List, [], ◌∷◌, ◌++◌, length, Bool, true, false, if◌then◌else◌, Option, Some, None, Result, Ok, Err, fold, replicate, slice_get, slice_set, refl, sym, ◌∙◌, ap, subst, arith, length-set}
use Rattle.std.proofs.lemmas.List.{length-replicate}
use Rattle.std.specs.List.{AllByRecursion}
use Rattle.rule_base.specs.declared.value.Value.{Value}
use Rattle.rule_base.specs.declared.element.Element.{Element}
use Rattle.rule_base.specs.declared.action.Term.{Term}
use Rattle.rule_base.specs.declared.action.Action.{Action}
use Rattle.rule_base.specs.declared.action.Action.TheVariants as action
use Rattle.rule_base.specs.declared.change.Change.{Change}
use Rattle.rule_base.specs.declared.change.Change.TheVariants.{Remove, Make}
use Rattle.rule_base.specs.declared.change.Piece.{Piece}
use Rattle.rule_base.specs.declared.entry.FaultCause.{FaultCause}
use Rattle.rule_base.specs.declared.program.Rule.{Rule}
use Rattle.rule_base.specs.Chains.{◌>>=◌}
use Rattle.rule_base.specs.Memory.{HasSize}
use Rattle.rule_base.specs.Value.{nil}
use Rattle.rule_base.specs.Bindings.{Bindings, bound}
use Rattle.rule_base.specs.Effect.{Effect, Progress, after_action, after_actions, after_modify, after_remove, beginning, changing, effect, is_gone, modified, of_action, unless_gone}
use Rattle.rule_base.specs.Term.{after_sets, item_pieces, term_value}
use Rattle.rule_base.specs.Sound.{IsSoundRule, SoundAction, SoundActions, known_after_action, known_after_conds, positive_classes}
use Rattle.rule_base.specs.Step.{born}
use Rattle.rule_base.proofs.EachLemmas.{Each-append, Each-slice_get}

-- what a step gave, and what the next made of it
pub record Gave {A B E : Type 0} (r : Result A E) (next : A → Result B E) (last : B) : Type 0 where
  pub first : A
  pub is : r ≡ Ok first
  pub next_is : next first ≡ Ok last

pub Gave-from_ok : {A B E : Type 0} (r : Result A E) (next : A → Result B E) (last : B) → (r >>= next) ≡ Ok last → Gave r next last
Gave-from_ok (Ok a) next last ok = record { first = a; is = refl; next_is = ok }
Gave-from_ok (Err e) next last ok = absurd (let wrong : ⊥ = cc in wrong)

-- how many elements changes make
abbrev pub makes : List Change → ℕ
makes [] = 0
makes (Remove tag ∷ changes) = makes changes
makes (Make class values ∷ changes) = makes changes + 1

pub makes-append : (xs ys : List Change) → makes (xs ++ ys) ≡ makes xs + makes ys
makes-append [] ys = omega arith
makes-append (Remove tag ∷ xs) ys = makes-append xs ys
makes-append (Make class values ∷ xs) ys = omega (arith, makes-append xs ys)

pub length-born : (next : ℕ) (changes : List Change) → length (born next changes) ≡ makes changes
length-born next [] = refl
length-born next (Remove tag ∷ changes) = length-born next changes
length-born next (Make class values ∷ changes) = omega (arith, length-born (next + 1) changes)

-- an element that a change makes has as many values as its class, for classes of these sizes
abbrev pub MakesSized : List ℕ → Change → Type 0
MakesSized sizes (Remove tag) = Unit {0}
MakesSized sizes (Make class values) = slice_get sizes class ≡ Some (length values)

-- settings leave the number of values
length-after_sets : (bindings : Bindings) (sets : List (ℕ × Term)) (values after : List Value) → after_sets bindings sets values ≡ Ok after → length after ≡ length values
length-after_sets bindings [] values after ok = let same : values ≡ after = cc in ap length (sym same)
length-after_sets bindings (set ∷ sets) values after ok =
    let gave = Gave-from_ok (term_value bindings set.1) (λ value. after_sets bindings sets (slice_set values set.0 value)) after ok in
    length-after_sets bindings sets (slice_set values set.0 gave.first) after gave.next_is ∙ length-set values set.0 gave.first

-- progress from changes of sized elements to such changes, with at most so many makes more
record KeepsSized (sizes : List ℕ) (more : ℕ) (old new : Progress) : Type 0 where
  sized : AllByRecursion (MakesSized sizes) old.done.changes → AllByRecursion (MakesSized sizes) new.done.changes
  few : makes new.done.changes ≤ makes old.done.changes + more

KeepsSized-by_changes : (sizes : List ℕ) (more : ℕ) (old new : Progress) (added : List Change) → new.done.changes ≡ old.done.changes ++ added → AllByRecursion (MakesSized sizes) added → makes added ≤ more → KeepsSized sizes more old new
KeepsSized-by_changes sizes more old new added is sized few = record {
  sized = λ before. rw is (Each-append (MakesSized sizes) old.done.changes added before sized);
  few = omega (arith, ap makes is, makes-append old.done.changes added);
}

KeepsSized-same : (sizes : List ℕ) (more : ℕ) (old new : Progress) → new.done.changes ≡ old.done.changes → KeepsSized sizes more old new
KeepsSized-same sizes more old new is = record {
  sized = λ before. rw is before;
  few = omega (arith, ap makes is);
}

KeepsSized-then : (sizes : List ℕ) (more further : ℕ) (old mid new : Progress) → KeepsSized sizes more old mid → KeepsSized sizes further mid new → KeepsSized sizes (more + further) old new
KeepsSized-then sizes more further old mid new first second = record {
  sized = λ before. second.sized (first.sized before);
  few = omega (arith, first.few, second.few);
}

-- an element of the working memory is as long as its class says
abbrev AllSized : List ℕ → List Element → Type 0
AllSized sizes elements = AllByRecursion (HasSize sizes) elements

by_gone : (sizes : List ℕ) (e : Element) (p : Progress) (gone : Bool) → KeepsSized sizes 0 p (if gone then p else changing p (Remove e.tag ∷ []))
by_gone sizes e p true = KeepsSized-same sizes 0 p p refl
by_gone sizes e p false = KeepsSized-by_changes sizes 0 p (changing p (Remove e.tag ∷ [])) (Remove e.tag ∷ []) refl (tt, tt) (omega arith)

by_removed : (sizes : List ℕ) (designated : Option Element) (p : Progress) → KeepsSized sizes 0 p (after_remove designated p)
by_removed sizes None p = KeepsSized-same sizes 0 p p refl
by_removed sizes (Some e) p = by_gone sizes e p (is_gone e.tag p.done.changes)

by_removes : (sizes : List ℕ) (elements : List Element) (ats : List ℕ) (p : Progress) → KeepsSized sizes 0 p (fold (λ before at. after_remove (slice_get elements at) before) p ats)
by_removes sizes elements [] p = KeepsSized-same sizes 0 p p refl
by_removes sizes elements (at ∷ ats) p = KeepsSized-then sizes 0 0 p (after_remove (slice_get elements at) p) _ (by_removed sizes (slice_get elements at) p) (by_removes sizes elements ats (after_remove (slice_get elements at) p))

-- what was made of values
changed_by : (p new : Progress) (added : List Change) → ◌≡◌ {A = Result Progress FaultCause} (Ok (changing p added)) (Ok new) → new.done.changes ≡ p.done.changes ++ added
changed_by p new added ok = let same : changing p added ≡ new = cc in ap (λ (q : Progress). q.done.changes) (sym same)

by_modified : (sizes : List ℕ) (e : Element) (sets : List (ℕ × Term)) (p new : Progress) → HasSize sizes e → modified e sets p ≡ Ok new → KeepsSized sizes 1 p new
by_modified sizes e sets p new size ok =
    let gave = Gave-from_ok (after_sets p.bindings sets e.values) (λ values. Ok (changing p (Remove e.tag ∷ Make e.class values ∷ []))) new ok in
    let long : length gave.first ≡ length e.values = length-after_sets p.bindings sets e.values gave.first gave.is in
    let sized : slice_get sizes e.class ≡ Some (length gave.first) = rw long size in
    KeepsSized-by_changes sizes 1 p new (Remove e.tag ∷ Make e.class gave.first ∷ []) (changed_by p new _ gave.next_is) (tt, (sized, tt)) (omega arith)

by_unless_gone : (sizes : List ℕ) (e : Element) (sets : List (ℕ × Term)) (p new : Progress) (gone : Bool) → HasSize sizes e → unless_gone gone (modified e sets p) ≡ Ok new → KeepsSized sizes 1 p new
by_unless_gone sizes e sets p new true size ok = absurd (let wrong : ⊥ = cc in wrong)
by_unless_gone sizes e sets p new false size ok = by_modified sizes e sets p new size ok

by_designated : (sizes : List ℕ) (elements : List Element) (at : ℕ) (designated : Option Element) (sets : List (ℕ × Term)) (p new : Progress) → AllSized sizes elements → slice_get elements at ≡ designated → after_modify designated sets p ≡ Ok new → KeepsSized sizes 1 p new
by_designated sizes elements at None sets p new sized is ok = absurd (let wrong : ⊥ = cc in wrong)
by_designated sizes elements at (Some e) sets p new sized is ok = by_unless_gone sizes e sets p new (is_gone e.tag p.done.changes) (Each-slice_get (HasSize sizes) elements at e sized is) ok

-- what changed nothing
same_by : (sizes : List ℕ) (p q new : Progress) → q.done.changes ≡ p.done.changes → ◌≡◌ {A = Result Progress FaultCause} (Ok q) (Ok new) → KeepsSized sizes 1 p new
same_by sizes p q new is ok =
    let same : q ≡ new = cc in
    KeepsSized-same sizes 1 p new (ap (λ (r : Progress). r.done.changes) (sym same) ∙ is)

-- an action of a sound rule
by_action : (sizes classes : List ℕ) (vars : ℕ) (known : List ℕ) (elements : List Element) (first : Action) (p new : Progress) → AllSized sizes elements → SoundAction sizes classes vars known first → after_action elements first p ≡ Ok new → KeepsSized sizes 1 p new
by_action sizes classes vars known elements (action.Make class size sets) p new sized sound ok =
    let gave = Gave-from_ok (after_sets p.bindings sets (replicate size nil)) (λ values. Ok (changing p (Make class values ∷ []))) new ok in
    let long : length gave.first ≡ size = length-after_sets p.bindings sets (replicate size nil) gave.first gave.is ∙ length-replicate size nil in
    let made : slice_get sizes class ≡ Some (length gave.first) = rw long sound.0 in
    KeepsSized-by_changes sizes 1 p new (Make class gave.first ∷ []) (changed_by p new _ gave.next_is) (made, tt) (omega arith)
by_action sizes classes vars known elements (action.Modify at sets) p new sized sound ok = by_designated sizes elements at (slice_get elements at) sets p new sized refl ok
by_action sizes classes vars known elements (action.Remove ats) p new sized sound ok =
    let removed = fold (λ before at. after_remove (slice_get elements at) before) p ats in
    let same : removed ≡ new = cc in
    subst (λ q. KeepsSized sizes 1 p q) same (KeepsSized-then sizes 0 1 p removed removed (by_removes sizes elements ats p) (KeepsSized-same sizes 1 removed removed refl))
by_action sizes classes vars known elements (action.Bind var term) p new sized sound ok =
    let next : Value → Progress = λ value. record p { bindings = bound p.bindings var value } in
    let gave = Gave-from_ok (term_value p.bindings term) (λ value. Ok (next value)) new ok in
    same_by sizes p (next gave.first) new refl gave.next_is
by_action sizes classes vars known elements (action.Write items) p new sized sound ok =
    let next : List Piece → Progress = λ more. record p { done = record { changes = p.done.changes; pieces = p.done.pieces ++ more; halts = p.done.halts } } in
    let gave = Gave-from_ok (item_pieces p.bindings items) (λ more. Ok (next more)) new ok in
    same_by sizes p (next gave.first) new refl gave.next_is
by_action sizes classes vars known elements action.Halt p new sized sound ok =
    let next : Progress = record p { done = record { changes = p.done.changes; pieces = p.done.pieces; halts = true } } in
    same_by sizes p next new refl ok

of_action_ok : {A : Type 0} (number : ℕ) (r : Result A FaultCause) (a : A) → of_action number r ≡ Ok a → r ≡ Ok a
of_action_ok number (Ok b) a ok = let same : b ≡ a = cc in ap (λ c. Ok c) same
of_action_ok number (Err cause) a ok = absurd (let wrong : ⊥ = cc in wrong)

-- the actions of a sound rule
by_actions : (sizes classes : List ℕ) (vars : ℕ) (known : List ℕ) (elements : List Element) (number : ℕ) (actions : List Action) (p new : Progress) → AllSized sizes elements → SoundActions sizes classes vars known actions → after_actions number elements actions p ≡ Ok new → KeepsSized sizes (length actions) p new
by_actions sizes classes vars known elements number [] p new sized sound ok = let same : p ≡ new = cc in KeepsSized-same sizes 0 p new (ap (λ (q : Progress). q.done.changes) (sym same))
by_actions sizes classes vars known elements number (first ∷ actions) p new sized sound ok =
    let gave = Gave-from_ok (of_action number (after_action elements first p)) (after_actions (number + 1) elements actions) new ok in
    let here = by_action sizes classes vars known elements first p gave.first sized sound.0 (of_action_ok number (after_action elements first p) gave.first gave.is) in
    let later = by_actions sizes classes vars (known_after_action known first) elements (number + 1) actions gave.first new sized sound.1 gave.next_is in
    let more : 1 + length actions ≡ length (first ∷ actions) = omega arith in
    subst (λ n. KeepsSized sizes n p new) more (KeepsSized-then sizes 1 (length actions) p gave.first new here later)

-- the effect of a sound rule with elements of their classes' sizes
pub record IsSizedEffect (sizes : List ℕ) (actions : ℕ) (done : Effect) : Type 0 where
  -- makes elements of their classes' sizes
  pub sized : AllByRecursion (MakesSized sizes) done.changes
  -- and at most one for each action
  pub few : makes done.changes ≤ actions

pub IsSizedEffect-sound : (sizes : List ℕ) (rule : Rule) (elements : List Element) (done : Effect) → IsSoundRule sizes rule → AllByRecursion (HasSize sizes) elements → effect rule elements ≡ Ok done → IsSizedEffect sizes (length rule.actions) done
IsSizedEffect-sound sizes rule elements done sound sized ok =
    let gave = Gave-from_ok (after_actions 1 elements rule.actions (beginning rule elements)) (λ (p : Progress). Ok p.done) done ok in
    let keeps = by_actions sizes (positive_classes rule.conds) rule.vars (known_after_conds [] rule.conds) elements 1 rule.actions (beginning rule elements) gave.first sized sound.sound_actions gave.is in
    let same : gave.first.done ≡ done = cc in
    subst (λ (d : Effect). IsSizedEffect sizes (length rule.actions) d) same (record { sized = keeps.sized tt; few = omega (arith, keeps.few) })
