-- What the actions of a rule add to the entry of its firing, and that no firing of a program needs more than its room.
use Rattle.std.proofs.Common.{◌≡◌, ℕ, ◌+◌, ◌<◌, ◌≤◌, List, [], ◌∷◌, ◌++◌, length, drop, Bool, true, false, if◌then◌else◌, Option, Some, None, Result, Ok, Err, fold, replicate, slice_get, slice_set, suc, zero, map, refl, sym, ◌∙◌, ap, subst, arith, drop-cons, length-append, length-set, get_or}
use Rattle.std.specs.List.{AllByRecursion, sum_by}
use Rattle.std.proofs.lemmas.List.{append-nil, length-replicate}
use Rattle.std.proofs.lemmas.List.Sums.{sum_by-cons}
use Rattle.rule_base.specs.declared.value.Value.{Value}
use Rattle.rule_base.specs.declared.element.Element.{Element}
use Rattle.rule_base.specs.declared.action.Term.{Term}
use Rattle.rule_base.specs.declared.action.Item.{Item}
use Rattle.rule_base.specs.declared.action.Action.{Action}
use Rattle.rule_base.specs.declared.action.Action.TheVariants as action
use Rattle.rule_base.specs.declared.change.Change.{Change}
use Rattle.rule_base.specs.declared.change.Change.TheVariants.{Remove, Make}
use Rattle.rule_base.specs.declared.change.Piece.{Piece}
use Rattle.rule_base.specs.declared.entry.FaultCause.{FaultCause}
use Rattle.rule_base.specs.declared.program.Rule.{Rule}
use Rattle.rule_base.specs.Chains.{◌>>=◌}
use Rattle.rule_base.specs.Memory.{HasSize, value_count}
use Rattle.rule_base.specs.Value.{nil}
use Rattle.rule_base.specs.Bindings.{Bindings, bound}
use Rattle.rule_base.specs.Term.{after_sets, item_piece, item_pieces, term_value}
use Rattle.rule_base.specs.Effect.{Effect, Progress, after_action, after_actions, after_modify, after_remove, beginning, changing, effect, is_gone, modified, of_action, removed_tags, unless_gone}
use Rattle.rule_base.specs.Sound.{sizes_of}
use Rattle.rule_base.specs.Step.{born}
use Rattle.rule_base.proofs.EachLemmas.{Each-slice_get}
use Rattle.rule_base.proofs.EffectLemmas.{Gave-from_ok, length-born, makes, makes-append}
use Rattle.commit_journal.specs.declared.room.Room.{Room}
use Rattle.commit_journal.specs.Room.{FitsIn, room_for, room_plus}
use Rattle.commit_journal.specs.ProgramRoom.{EntriesFitInRoomOfProgram, greatest, largest_room, most_born, most_gone, most_pieces, most_values, room_of_action, room_of, room_of_rule, widest}
use Rattle.commit_journal.proofs.NumberedLemmas.{value_count-cons}
use Rattle.commit_journal.proofs.RoomLemmas.{FitsIn-refl, FitsIn-larger_room, FitsIn-larger_room_second, FitsIn-room_plus, FitsIn-trans, room_plus-associates, same_room}

-- what actions add at most
abbrev pub room_of_actions : ℕ → List Action → Room
room_of_actions width actions = record { entries = 0; tags = 0; gone = sum_by most_gone actions; elements = sum_by most_born actions; values = sum_by (most_values width) actions; pieces = sum_by most_pieces actions }

pub room_of_actions-cons : (width : ℕ) (first : Action) (actions : List Action) → room_of_actions width (first ∷ actions) ≡ room_plus (room_of_action width first) (room_of_actions width actions)
room_of_actions-cons width first actions =
    same_room (room_of_actions width (first ∷ actions)) (room_plus (room_of_action width first) (room_of_actions width actions)) (omega arith) (omega arith)
    (sum_by-cons most_gone first actions) (sum_by-cons most_born first actions) (sum_by-cons (most_values width) first actions) (sum_by-cons most_pieces first actions)

-- one action more of those that a loop goes through
pub room_of_actions-next : (width : ℕ) (actions : List Action) (at : ℕ) (first : Action) (room share whole : Room) → at < length actions → first ≡ get_or actions at first → share ≡ room_of_action width first → room_plus room (room_of_actions width (drop at actions)) ≡ whole → room_plus (room_plus room share) (room_of_actions width (drop (at + 1) actions)) ≡ whole
room_of_actions-next width actions at first room share whole within is adds before =
    let rest = room_of_actions width (drop (at + 1) actions) in
    let next : suc at ≡ at + 1 = omega arith in
    let left : drop at actions ≡ first ∷ drop (at + 1) actions = drop-cons actions at first within ∙ ap (λ a. a ∷ drop (suc at) actions) (sym is) ∙ ap (λ n. first ∷ drop n actions) next in
    let all : room_of_actions width (drop at actions) ≡ room_plus share rest =
    ap (room_of_actions width) left ∙ room_of_actions-cons width first (drop (at + 1) actions) ∙ ap (λ r. room_plus r rest) (sym adds) in
    room_plus-associates room share rest ∙ ap (room_plus room) (sym all) ∙ before

-- how many values the makes among changes have
abbrev pub made_values : List Change → ℕ
made_values [] = 0
made_values (Remove tag ∷ changes) = made_values changes
made_values (Make class values ∷ changes) = length values + made_values changes

made_values-append : (xs ys : List Change) → made_values (xs ++ ys) ≡ made_values xs + made_values ys
made_values-append [] ys = omega arith
made_values-append (Remove tag ∷ xs) ys = made_values-append xs ys
made_values-append (Make class values ∷ xs) ys = omega (arith, made_values-append xs ys)

pub value_count-born : (next : ℕ) (changes : List Change) → value_count (born next changes) ≡ made_values changes
value_count-born next [] = refl
value_count-born next (Remove tag ∷ changes) = value_count-born next changes
value_count-born next (Make class values ∷ changes) =
    let first : Element = record { tag = next; class = class; values = values } in
    value_count-cons first (born (next + 1) changes) ∙ ap (λ n. length values + n) (value_count-born (next + 1) changes)

removals-append : (xs ys : List Change) → length (removed_tags (xs ++ ys)) ≡ length (removed_tags xs) + length (removed_tags ys)
removals-append [] ys = omega arith
removals-append (Remove tag ∷ xs) ys = omega (arith, removals-append xs ys)
removals-append (Make class values ∷ xs) ys = removals-append xs ys

-- what changes and so many pieces need, beside the entry itself and its tags
abbrev needed_by : List Change → ℕ → Room
needed_by changes pieces = record { entries = 0; tags = 0; gone = length (removed_tags changes); elements = makes changes; values = made_values changes; pieces = pieces }

-- what a right-hand side needs that has come so far
abbrev needed : Progress → Room
needed p = needed_by p.done.changes (length p.done.pieces)

-- a step of a right-hand side adds no more than this
abbrev Adds : Room → Progress → Progress → Type 0
Adds share old new = FitsIn (needed new) (room_plus (needed old) share)

-- where it adds these changes and pieces, and they fit
adds_by : (share : Room) (old new : Progress) (added : List Change) (written : List Piece) → new.done.changes ≡ old.done.changes ++ added → new.done.pieces ≡ old.done.pieces ++ written → FitsIn (needed_by added (length written)) share → Adds share old new
adds_by share old new added written changes pieces fits = record {
  entries = omega arith;
  tags = omega arith;
  gone = omega (arith, ap (λ cs. length (removed_tags cs)) changes, removals-append old.done.changes added, fits.gone);
  elements = omega (arith, ap makes changes, makes-append old.done.changes added, fits.elements);
  values = omega (arith, ap made_values changes, made_values-append old.done.changes added, fits.values);
  pieces = omega (arith, ap length pieces, length-append old.done.pieces written, fits.pieces);
}

-- where it adds nothing
adds_nothing : (share : Room) (old new : Progress) → new.done.changes ≡ old.done.changes → new.done.pieces ≡ old.done.pieces → Adds share old new
adds_nothing share old new changes pieces = record {
  entries = omega arith;
  tags = omega arith;
  gone = omega (arith, ap (λ cs. length (removed_tags cs)) changes);
  elements = omega (arith, ap makes changes);
  values = omega (arith, ap made_values changes);
  pieces = omega (arith, ap length pieces);
}

-- two steps add what both add
adds_then : (share further : Room) (old mid new : Progress) → Adds share old mid → Adds further mid new → Adds (room_plus share further) old new
adds_then share further old mid new first second =
    subst (FitsIn (needed new)) (room_plus-associates (needed old) share further)
    (FitsIn-trans (needed new) (room_plus (needed mid) further) (room_plus (room_plus (needed old) share) further) second (FitsIn-room_plus (needed mid) (room_plus (needed old) share) further first))

-- settings leave the number of values
length-after_sets : (bindings : Bindings) (sets : List (ℕ × Term)) (values after : List Value) → after_sets bindings sets values ≡ Ok after → length after ≡ length values
length-after_sets bindings [] values after ok = let same : values ≡ after = cc in ap length (sym same)
length-after_sets bindings (set ∷ sets) values after ok =
    let gave = Gave-from_ok (term_value bindings set.1) (λ value. after_sets bindings sets (slice_set values set.0 value)) after ok in
    length-after_sets bindings sets (slice_set values set.0 gave.first) after gave.next_is ∙ length-set values set.0 gave.first

-- each item gives one piece
length-item_pieces : (bindings : Bindings) (items : List Item) (pieces : List Piece) → item_pieces bindings items ≡ Ok pieces → length pieces ≡ length items
length-item_pieces bindings [] pieces ok = let same : [] ≡ pieces = cc in ap length (sym same)
length-item_pieces bindings (first ∷ items) pieces ok =
    let gave = Gave-from_ok (item_piece bindings first) (λ p. item_pieces bindings items >>= λ ps. Ok (p ∷ ps)) pieces ok in
    let rest = Gave-from_ok (item_pieces bindings items) (λ ps. Ok (gave.first ∷ ps)) pieces gave.next_is in
    let same : gave.first ∷ rest.first ≡ pieces = cc in
    ap length (sym same) ∙ ap suc (length-item_pieces bindings items rest.first rest.is)

-- what was made by changes
adds_changes : (share : Room) (p new : Progress) (added : List Change) → ◌≡◌ {A = Result Progress FaultCause} (Ok (changing p added)) (Ok new) → FitsIn (needed_by added 0) share → Adds share p new
adds_changes share p new added ok fits =
    let same : changing p added ≡ new = cc in
    subst (Adds share p) same (adds_by share p (changing p added) added [] refl (sym (append-nil p.done.pieces)) fits)

-- so many elements go
abbrev removal : ℕ → Room
removal count = record { entries = 0; tags = 0; gone = count; elements = 0; values = 0; pieces = 0 }

adds_unless_gone : (e : Element) (p : Progress) (gone : Bool) → Adds (removal 1) p (if gone then p else changing p (Remove e.tag ∷ []))
adds_unless_gone e p true = adds_nothing (removal 1) p p refl refl
adds_unless_gone e p false = adds_changes (removal 1) p (changing p (Remove e.tag ∷ [])) (Remove e.tag ∷ []) refl (FitsIn-refl (removal 1))

adds_removal : (designated : Option Element) (p : Progress) → Adds (removal 1) p (after_remove designated p)
adds_removal None p = adds_nothing (removal 1) p p refl refl
adds_removal (Some e) p = adds_unless_gone e p (is_gone e.tag p.done.changes)

adds_removals : (elements : List Element) (ats : List ℕ) (p : Progress) → Adds (removal (length ats)) p (fold (λ before at. after_remove (slice_get elements at) before) p ats)
adds_removals elements [] p = adds_nothing (removal 0) p p refl refl
adds_removals elements (at ∷ ats) p =
    let mid = after_remove (slice_get elements at) p in
    let last = fold (λ before at. after_remove (slice_get elements at) before) mid ats in
    let count : room_plus (removal 1) (removal (length ats)) ≡ removal (length (at ∷ ats)) = same_room (room_plus (removal 1) (removal (length ats))) (removal (length (at ∷ ats))) (omega arith) (omega arith) (omega arith) (omega arith) (omega arith) (omega arith) in
    subst (λ share. Adds share p last) count (adds_then (removal 1) (removal (length ats)) p mid last (adds_removal (slice_get elements at) p) (adds_removals elements ats mid))

-- an element goes, and one with at most so many values comes
abbrev exchange : ℕ → Room
exchange width = record { entries = 0; tags = 0; gone = 1; elements = 1; values = width; pieces = 0 }

-- no number of a list is greater than its greatest
pub greatest-at : (numbers : List ℕ) (place number : ℕ) → slice_get numbers place ≡ Some number → number ≤ greatest numbers
greatest-at [] place number is = absurd (let wrong : ⊥ = cc in wrong)
greatest-at (n ∷ ns) zero number is = let same : n ≡ number = cc in omega (arith, same)
greatest-at (n ∷ ns) (suc place) number is = omega (arith, greatest-at ns place number is)

adds_modified : (width : ℕ) (e : Element) (sets : List (ℕ × Term)) (p new : Progress) → length e.values ≤ width → modified e sets p ≡ Ok new → Adds (exchange width) p new
adds_modified width e sets p new narrow ok =
    let gave = Gave-from_ok (after_sets p.bindings sets e.values) (λ values. Ok (changing p (Remove e.tag ∷ Make e.class values ∷ []))) new ok in
    let long : length gave.first ≡ length e.values = length-after_sets p.bindings sets e.values gave.first gave.is in
    adds_changes (exchange width) p new (Remove e.tag ∷ Make e.class gave.first ∷ []) gave.next_is
    (record { entries = omega arith; tags = omega arith; gone = omega arith; elements = omega arith; values = omega (arith, long, narrow); pieces = omega arith })

adds_modified_unless_gone : (width : ℕ) (e : Element) (sets : List (ℕ × Term)) (p new : Progress) (gone : Bool) → length e.values ≤ width → unless_gone gone (modified e sets p) ≡ Ok new → Adds (exchange width) p new
adds_modified_unless_gone width e sets p new true narrow ok = absurd (let wrong : ⊥ = cc in wrong)
adds_modified_unless_gone width e sets p new false narrow ok = adds_modified width e sets p new narrow ok

-- a modify that doesn't fail has its element, which is no wider than its class
adds_modify : (sizes : List ℕ) (elements : List Element) (at : ℕ) (designated : Option Element) (sets : List (ℕ × Term)) (p new : Progress) → AllByRecursion (HasSize sizes) elements → slice_get elements at ≡ designated → after_modify designated sets p ≡ Ok new → Adds (exchange (greatest sizes)) p new
adds_modify sizes elements at None sets p new sized is ok = absurd (let wrong : ⊥ = cc in wrong)
adds_modify sizes elements at (Some e) sets p new sized is ok =
    let has_size : HasSize sizes e = Each-slice_get (HasSize sizes) elements at e sized is in
    adds_modified_unless_gone (greatest sizes) e sets p new (is_gone e.tag p.done.changes) (greatest-at sizes e.class (length e.values) has_size) ok

adds_action : (sizes : List ℕ) (elements : List Element) (first : Action) (p new : Progress) → AllByRecursion (HasSize sizes) elements → after_action elements first p ≡ Ok new → Adds (room_of_action (greatest sizes) first) p new
adds_action sizes elements (action.Make class size sets) p new sized ok =
    let gave = Gave-from_ok (after_sets p.bindings sets (replicate size nil)) (λ values. Ok (changing p (Make class values ∷ []))) new ok in
    let long : length gave.first ≡ size = length-after_sets p.bindings sets (replicate size nil) gave.first gave.is ∙ length-replicate size nil in
    adds_changes (room_of_action (greatest sizes) (action.Make class size sets)) p new (Make class gave.first ∷ []) gave.next_is
    (record { entries = omega arith; tags = omega arith; gone = omega arith; elements = omega arith; values = omega (arith, long); pieces = omega arith })
adds_action sizes elements (action.Modify at sets) p new sized ok = adds_modify sizes elements at (slice_get elements at) sets p new sized refl ok
adds_action sizes elements (action.Remove ats) p new sized ok =
    let removed = fold (λ before at. after_remove (slice_get elements at) before) p ats in
    let same : removed ≡ new = cc in
    subst (Adds (removal (length ats)) p) same (adds_removals elements ats p)
adds_action sizes elements (action.Bind var term) p new sized ok =
    let next : Value → Progress = λ value. record p { bindings = bound p.bindings var value } in
    let gave = Gave-from_ok (term_value p.bindings term) (λ value. Ok (next value)) new ok in
    let same : next gave.first ≡ new = cc (gave.next_is) in
    subst (Adds (room_of_action (greatest sizes) (action.Bind var term)) p) same (adds_nothing (room_of_action (greatest sizes) (action.Bind var term)) p (next gave.first) refl refl)
adds_action sizes elements (action.Write items) p new sized ok =
    let next : List Piece → Progress = λ more. record p { done = record { changes = p.done.changes; pieces = p.done.pieces ++ more; halts = p.done.halts } } in
    let gave = Gave-from_ok (item_pieces p.bindings items) (λ more. Ok (next more)) new ok in
    let long : length gave.first ≡ length items = length-item_pieces p.bindings items gave.first gave.is in
    let same : next gave.first ≡ new = cc (gave.next_is) in
    let share = room_of_action (greatest sizes) (action.Write items) in
    subst (Adds share p) same (adds_by share p (next gave.first) [] gave.first (sym (append-nil p.done.changes)) refl
    (record { entries = omega arith; tags = omega arith; gone = omega arith; elements = omega arith; values = omega arith; pieces = omega (arith, long) }))
adds_action sizes elements action.Halt p new sized ok =
    let next : Progress = record p { done = record { changes = p.done.changes; pieces = p.done.pieces; halts = true } } in
    let same : next ≡ new = cc (ok) in
    subst (Adds (room_of_action (greatest sizes) action.Halt) p) same (adds_nothing (room_of_action (greatest sizes) action.Halt) p next refl refl)

of_action_ok : {A : Type 0} (number : ℕ) (r : Result A FaultCause) (a : A) → of_action number r ≡ Ok a → r ≡ Ok a
of_action_ok number (Ok b) a ok = let same : b ≡ a = cc in ap (λ c. Ok c) same
of_action_ok number (Err cause) a ok = absurd (let wrong : ⊥ = cc in wrong)

adds_actions : (sizes : List ℕ) (elements : List Element) (number : ℕ) (actions : List Action) (p new : Progress) → AllByRecursion (HasSize sizes) elements → after_actions number elements actions p ≡ Ok new → Adds (room_of_actions (greatest sizes) actions) p new
adds_actions sizes elements number [] p new sized ok =
    let same : p ≡ new = cc in
    let nothing = room_of_actions (greatest sizes) [] in
    subst (Adds nothing p) same (adds_nothing nothing p p refl refl)
adds_actions sizes elements number (first ∷ actions) p new sized ok =
    let width = greatest sizes in
    let gave = Gave-from_ok (of_action number (after_action elements first p)) (after_actions (number + 1) elements actions) new ok in
    let here = adds_action sizes elements first p gave.first sized (of_action_ok number (after_action elements first p) gave.first gave.is) in
    let later = adds_actions sizes elements (number + 1) actions gave.first new sized gave.next_is in
    subst (λ share. Adds share p new) (sym (room_of_actions-cons width first actions)) (adds_then (room_of_action width first) (room_of_actions width actions) p gave.first new here later)

-- what an effect needs fits in what its actions add at most
fits_effect : (sizes : List ℕ) (rule : Rule) (elements : List Element) (done : Effect) → AllByRecursion (HasSize sizes) elements → effect rule elements ≡ Ok done → FitsIn (needed_by done.changes (length done.pieces)) (room_of_actions (greatest sizes) rule.actions)
fits_effect sizes rule elements done sized ok =
    let begun = beginning rule elements in
    let share = room_of_actions (greatest sizes) rule.actions in
    let gave = Gave-from_ok (after_actions 1 elements rule.actions begun) (λ (p : Progress). Ok p.done) done ok in
    let adds = adds_actions sizes elements 1 rule.actions begun gave.first sized gave.is in
    let same : gave.first.done ≡ done = cc in
    let nothing : room_plus (needed begun) share ≡ share = same_room (room_plus (needed begun) share) share (omega arith) (omega arith) (omega arith) (omega arith) (omega arith) (omega arith) in
    let all : FitsIn (needed gave.first) share = subst (FitsIn (needed gave.first)) nothing adds in
    subst (λ (d : Effect). FitsIn (needed_by d.changes (length d.pieces)) share) same all

-- the entry fits in the room of its rule
fits_in_rule : (sizes : List ℕ) (rule : Rule) (elements : List Element) (tags : List ℕ) (next : ℕ) (done : Effect) → AllByRecursion (HasSize sizes) elements → length tags ≡ rule.positives → effect rule elements ≡ Ok done → FitsIn (room_for tags (removed_tags done.changes) (born next done.changes) done.pieces) (room_of_rule (greatest sizes) rule)
fits_in_rule sizes rule elements tags next done sized same ok =
    let needs = fits_effect sizes rule elements done sized ok in
    record {
      entries = omega arith;
      tags = omega (arith, same);
      gone = needs.gone;
      elements = omega (arith, length-born next done.changes, needs.elements);
      values = omega (arith, value_count-born next done.changes, needs.values);
      pieces = needs.pieces;
    }

-- and the room of a rule in the largest one
fits_in_largest : (room_at : Rule → Room) (rules : List Rule) (number : ℕ) (rule : Rule) → slice_get rules number ≡ Some rule → FitsIn (room_at rule) (largest_room (map room_at rules))
fits_in_largest room_at [] number rule is = absurd (let wrong : ⊥ = cc in wrong)
fits_in_largest room_at (first ∷ rules) zero rule is =
    let same : first ≡ rule = cc in
    subst (λ r. FitsIn (room_at r) (largest_room (map room_at (first ∷ rules)))) same (FitsIn-larger_room (room_at first) (largest_room (map room_at rules)))
fits_in_largest room_at (first ∷ rules) (suc number) rule is =
    FitsIn-trans (room_at rule) (largest_room (map room_at rules)) (largest_room (map room_at (first ∷ rules)))
    (fits_in_largest room_at rules number rule is) (FitsIn-larger_room_second (room_at first) (largest_room (map room_at rules)))

pub fits : EntriesFitInRoomOfProgram
fits program number rule elements tags next done is sized same ok =
    let width = widest program in
    FitsIn-trans (room_for tags (removed_tags done.changes) (born next done.changes) done.pieces) (room_of_rule width rule) (room_of program)
    (fits_in_rule (sizes_of program.classes) rule elements tags next done sized same ok) (fits_in_largest (room_of_rule width) program.rules number rule is)
