-- Of two choices that don't clash neither disturbs the other: what the other matched stays, and nothing comes that its
-- negated condition elements accept.
use Rattle.std.proofs.Common.{◌≡◌, ℕ, ◌+◌, List, [], ◌∷◌, ◌++◌, Bool, true, false, cond, not, Option, Some, None, Ok, ◌⊎◌, inl, inr, find, is_some, map, slice_get, unwrap_or, ◌==◌, refl, sym, ◌∙◌, ap, subst, true≢false}
use Rattle.std.specs.List.{cons_option, filter, list_any}
use Rattle.std.proofs.lemmas.Bool.Decides.{Decides-eqb}
use Rattle.rule_base.specs.declared.lock.Mode.{Mode}
use Rattle.rule_base.specs.declared.lock.Mode.TheVariants.{Watch, Grow, Own}
use Rattle.rule_base.specs.declared.value.Value.{Value}
use Rattle.rule_base.specs.declared.element.Element.{Element}
use Rattle.rule_base.specs.declared.condition.Cond.{Cond}
use Rattle.rule_base.specs.declared.change.Change.{Change}
use Rattle.rule_base.specs.declared.change.Change.TheVariants.{Remove, Make}
use Rattle.rule_base.specs.declared.instantiation.Choice.{Choice}
use Rattle.rule_base.specs.declared.base.Refraction.{Refraction}
use Rattle.rule_base.specs.declared.base.Refraction.TheVariants.{Once, Renewed}
use Rattle.rule_base.specs.declared.program.Rule.{Rule}
use Rattle.rule_base.specs.declared.program.Program.{Program}
use Rattle.rule_base.specs.Memory.{Memory, element_at, elements_at}
use Rattle.rule_base.specs.Bindings.{Bindings, no_bindings}
use Rattle.rule_base.specs.Acceptance.{accepts}
use Rattle.rule_base.specs.Match.{match_of}
use Rattle.rule_base.specs.Effect.{Effect, Progress, after_actions, beginning, effect, removed_tags}
use Rattle.rule_base.specs.Sound.{IsSound, IsSoundRule, sizes_of}
use Rattle.rule_base.specs.State.{IsState, State, same_choice}
use Rattle.rule_base.specs.Step.{born, committed, is_listed, memory_after, step, still_fired, without}
use Rattle.rule_base.proofs.AmongLemmas.{Among, Among-map, IsFound-find, list_any-among}
use Rattle.rule_base.proofs.ChoiceLemmas.{any_filtered, same_choice-equal, same_choice-itself}
use Rattle.rule_base.proofs.EachLemmas.{Each-slice_get}
use Rattle.rule_base.proofs.EffectLemmas.{Gave-from_ok}
use Rattle.rule_base.proofs.ElementMatchLemmas.{bindings_with-elements_at}
use Rattle.rule_base.proofs.ListedLemmas.{list_any-matches}
use Rattle.rule_base.proofs.MachineLemmas.{HasRule-effect_of}
use Rattle.rule_base.proofs.RunLemmas.{matches_at_step}
use Rattle.rule_base.proofs.StepLemmas.{IsStep-from_step}
use Rattle.interference.specs.Locks.{region, stripe}
use Rattle.interference.specs.Given.{given}
use Rattle.interference.specs.Regions.{pinned_value, regions_by, watched_regions}
use Rattle.interference.specs.Splits.{split_of, splits_of}
use Rattle.interference.specs.PhantomLaw.{ClashIn, IsReady, IsUndisturbed}
use Rattle.interference.proofs.ListLemmas.{Among-append, Among-list_any}
use Rattle.interference.proofs.BindingLemmas.{Agrees, Agrees-nothing, IsAccepted-accepts}
use Rattle.interference.proofs.WalkLemmas.{RefusesLater, Walks-later, match_from-Walks}
use Rattle.interference.proofs.PinLemmas.{pinned_value-accepted}
use Rattle.interference.proofs.RegionLemmas.{regions_meet}
use Rattle.interference.proofs.ChangeLemmas.{HasGiven, HoldDemands, IsAskedFor, IsGrown, changes_are_asked_for}
use Rattle.interference.proofs.MatchedLemmas.{BindsOthers-negated, IsMatch, IsMatch-matches, IsMatched, IsMatched-match_of, matches-listed, matches-match_of}
use Rattle.interference.proofs.DemandLemmas.{ClashIn-demands, demands_in, designated_is_demanded, made_is_demanded, matched_is_demanded, negated_is_demanded}

-- the firing choice's demands hold what its actions ask for
HoldDemands-choice : (program : Program) (memory : Memory) (rule : Rule) (c : Choice) (last : Bindings) → IsMatched (sizes_of program.classes) rule c.tags memory last → HoldDemands (splits_of program) rule (elements_at memory c.tags) (demands_in program memory rule c)
HoldDemands-choice program memory rule c last matched = record {
  owned = λ a at e of_action designates is. designated_is_demanded program memory rule c a at e.tag of_action designates (matched.tag at e is);
  grown = λ a lock of_action of_region. made_is_demanded program memory rule c a lock of_action of_region;
  paired = matched.paired;
}

-- each change of its effect is asked for
effect_is_asked_for : (program : Program) (memory : Memory) (rule : Rule) (c : Choice) (last : Bindings) (done : Effect) → IsMatched (sizes_of program.classes) rule c.tags memory last → match_of rule c.tags memory ≡ Ok last → effect rule (elements_at memory c.tags) ≡ Ok done → (change : Change) → Among change done.changes → IsAskedFor (splits_of program) (demands_in program memory rule c) change
effect_is_asked_for program memory rule c last done matched is ok change among =
    let elements = elements_at memory c.tags in
    let gave = Gave-from_ok (after_actions 1 elements rule.actions (beginning rule elements)) (λ (p : Progress). Ok p.done) done ok in
    let same : gave.first.done ≡ done = let last_is = gave.next_is in cc in
    let begins : last ≡ (beginning rule elements).bindings = ap (λ o. unwrap_or o (no_bindings rule.vars)) (sym (bindings_with-elements_at rule c.tags memory last is)) in
    changes_are_asked_for (splits_of program) rule elements (demands_in program memory rule c) (beginning rule elements) gave.first (HoldDemands-choice program memory rule c last matched) refl
    (subst (HasGiven rule elements) begins matched.has) gave.is change (subst (λ (d : Effect). Among change d.changes) (sym same) among)

-- an element of a match that doesn't clash is not removed
removed_is_owned : (splits : List (Option ℕ)) (demands : List (ℕ × Mode)) (changes : List Change) (tag : ℕ) → ((change : Change) → Among change changes → IsAskedFor splits demands change) → Among tag (removed_tags changes) → Among (stripe tag, Own) demands
removed_is_owned splits demands [] tag asked among = absurd among
removed_is_owned splits demands (Remove gone ∷ changes) tag asked (inl same) = subst (λ t. Among (stripe t, Own) demands) (sym same) (asked (Remove gone) (inl refl))
removed_is_owned splits demands (Remove gone ∷ changes) tag asked (inr later) = removed_is_owned splits demands changes tag (λ change among. asked change (inr among)) later
removed_is_owned splits demands (Make class values ∷ changes) tag asked among = removed_is_owned splits demands changes tag (λ change among'. asked change (inr among')) among

-- what is made is asked for
born_is_grown : (splits : List (Option ℕ)) (demands : List (ℕ × Mode)) (changes : List Change) (next : ℕ) (e : Element) → ((change : Change) → Among change changes → IsAskedFor splits demands change) → Among e (born next changes) → IsGrown splits demands e.class e.values
born_is_grown splits demands [] next e asked among = absurd among
born_is_grown splits demands (Remove gone ∷ changes) next e asked among = born_is_grown splits demands changes next e (λ change among'. asked change (inr among')) among
born_is_grown splits demands (Make class values ∷ changes) next e asked (inl same) = subst (λ (x : Element). IsGrown splits demands x.class x.values) (sym same) (asked (Make class values) (inl refl))
born_is_grown splits demands (Make class values ∷ changes) next e asked (inr later) = born_is_grown splits demands changes (next + 1) e (λ change among. asked change (inr among)) later

-- a search finds the same element among fewer, where it is one of them, and in front of others
found_in_fewer : {X : Type 0} (p q : X → Bool) (x y : X) (rest : Option X) (fewer : List X) (passes stays : Bool) → p y ≡ passes → q y ≡ stays → q x ≡ true → cond passes (Some y) rest ≡ Some x → (rest ≡ Some x → find p fewer ≡ Some x) → find p (cond stays (y ∷ fewer) fewer) ≡ Some x
found_in_fewer p q x y rest fewer true true is is_stay stays found later = rw is found
found_in_fewer p q x y rest fewer true false is is_stay stays found later =
    let same : y ≡ x = cc in
    absurd (true≢false (sym stays ∙ ap q (sym same) ∙ is_stay))
found_in_fewer p q x y rest fewer false true is is_stay stays found later = rw is (later found)
found_in_fewer p q x y rest fewer false false is is_stay stays found later = later found

find-filter : {X : Type 0} (p q : X → Bool) (x : X) (xs : List X) → find p xs ≡ Some x → q x ≡ true → find p (filter q xs) ≡ Some x
find-filter p q x [] found stays = found
find-filter p q x (y ∷ xs) found stays = found_in_fewer p q x y (find p xs) (filter q xs) (p y) (q y) refl refl stays found (λ later. find-filter p q x xs later stays)

found_before : {X : Type 0} (passes : Bool) (x y : X) (rest more : Option X) → cond passes (Some y) rest ≡ Some x → (rest ≡ Some x → more ≡ Some x) → cond passes (Some y) more ≡ Some x
found_before true x y rest more found later = found
found_before false x y rest more found later = later found

find-append : {X : Type 0} (p : X → Bool) (x : X) (xs ys : List X) → find p xs ≡ Some x → find p (xs ++ ys) ≡ Some x
find-append p x [] ys found = absurd (let wrong : ⊥ = cc in wrong)
find-append p x (y ∷ xs) ys found = found_before (p y) x y (find p xs) (find p (xs ++ ys)) found (find-append p x xs ys)

-- a test that no element passes, as facts of each
none_from_each : {X : Type 0} (p : X → Bool) (xs : List X) → ((x : X) → Among x xs → p x ≡ false) → list_any p xs ≡ false
none_from_each p [] each = refl
none_from_each p (x ∷ xs) each = rw (each x (inl refl)) (none_from_each p xs (λ y among. each y (inr among)))

among_fewer_first : {X : Type 0} (q : X → Bool) (x y : X) (xs : List X) (stays : Bool) → (Among x (filter q xs) → Among x xs) → Among x (cond stays (y ∷ filter q xs) (filter q xs)) → Among x (y ∷ xs)
among_fewer_first q x y xs true rest (inl same) = inl same
among_fewer_first q x y xs true rest (inr later) = inr (rest later)
among_fewer_first q x y xs false rest among = inr (rest among)

among_fewer : {X : Type 0} (q : X → Bool) (x : X) (xs : List X) → Among x (filter q xs) → Among x xs
among_fewer q x [] among = among
among_fewer q x (y ∷ xs) among = among_fewer_first q x y xs (q y) (among_fewer q x xs) among

not_none : (b : Bool) → (b ≡ true → ⊥) → b ≡ false
not_none true never = absurd (never refl)
not_none false never = refl

some_after : (o : Option Bindings) → is_some o ≡ true → (after : Bindings) × (o ≡ Some after)
some_after None is = absurd (let wrong : ⊥ = cc in wrong)
some_after (Some after) is = (after, refl)

none_of : {X : Type 0} (p : X → Bool) (x : X) (xs : List X) → list_any p xs ≡ false → Among x xs → p x ≡ false
none_of p x xs none among = not_none (p x) (λ passes. true≢false (sym (list_any-among p x xs among passes) ∙ none))

-- two choices of a memory that don't clash: the first has fired with an effect
record Apart (program : Program) (memory : Memory) (c d : Choice) (changes : List Change) : Type 0 where
  rule : Rule
  at : slice_get program.rules c.rule ≡ Some rule
  asked : (change : Change) → Among change changes → IsAskedFor (splits_of program) (demands_in program memory rule c) change
  no_clash : ClashIn program memory c d → ⊥

-- the other one, of a sound rule
record Matched (program : Program) (memory : Memory) (d : Choice) : Type 0 where
  rule : Rule
  at : slice_get program.rules d.rule ≡ Some rule
  sound : IsSoundRule (sizes_of program.classes) rule
  last : Bindings
  is : match_of rule d.tags memory ≡ Ok last
  matched : IsMatched (sizes_of program.classes) rule d.tags memory last

Matched-matches : (program : Program) (memory : Memory) (d : Choice) → IsSound program → IsMatch program memory d → Matched program memory d
Matched-matches program memory d sound match =
    let of_rule = Each-slice_get (IsSoundRule (sizes_of program.classes)) program.rules d.rule match.rule sound.sound_rules match.at in
    record {
      rule = match.rule;
      at = match.at;
      sound = of_rule;
      last = match.last;
      is = match.is;
      matched = IsMatched-match_of (sizes_of program.classes) match.rule d.tags memory match.last of_rule match.is;
    }

-- an element that the other matched is still there: its stripe is watched, and would be owned by who removed it
matched_stays : (program : Program) (s : State) (c d : Choice) (done : Effect) → Apart program s.memory c d done.changes → Matched program s.memory d → (tag : ℕ) → Among tag d.tags → element_at (memory_after s done) tag ≡ element_at s.memory tag
matched_stays program s c d done apart other tag among =
    let found = other.matched.found tag among in
    let e = found.0 in
    let gone = removed_tags done.changes in
    let stays : Element → Bool = λ (x : Element). not (list_any (λ t. t == x.tag) gone) in
    let tag_is : e.tag ≡ tag = (Decides-eqb e.tag tag).0 (IsFound-find (λ (x : Element). x.tag == tag) s.memory e found.1).passes in
    let left : list_any (λ t. t == e.tag) gone ≡ false =
    not_none (list_any (λ t. t == e.tag) gone) (λ any. apart.no_clash (ClashIn-demands program s.memory apart.rule other.rule c d (stripe e.tag) Own Watch apart.at other.at
    (removed_is_owned (splits_of program) (demands_in program s.memory apart.rule c) done.changes e.tag apart.asked (Among-list_any e.tag gone any))
    (subst (λ t. Among (stripe t, Watch) (demands_in program s.memory other.rule d)) (sym tag_is) (matched_is_demanded program s.memory other.rule d tag among)) refl)) in
    let kept : stays e ≡ true = ap not left in
    find-append (λ (x : Element). x.tag == tag) e (without s.memory gone) (born s.next done.changes) (find-filter (λ (x : Element). x.tag == tag) stays e s.memory found.1 kept) ∙ sym found.1

-- what a negated condition element of the other accepts is not made: it would fall into a region that both ask for
nothing_accepted_comes : (program : Program) (s : State) (c d : Choice) (done : Effect) (apart : Apart program s.memory c d done.changes) (other : Matched program s.memory d) (n : Cond) (b after : Bindings) (e : Element) → Among n other.rule.conds → n.negated ≡ true → Agrees (given other.rule.conds (elements_at s.memory d.tags)) b → Among e (born s.next done.changes) → accepts n b e ≡ Some after → ⊥
nothing_accepted_comes program s c d done apart other n b after e of_rule is agrees comes accepted =
    let splits = splits_of program in
    let elements = elements_at s.memory d.tags in
    let accept = IsAccepted-accepts n b e after accepted in
    let class : n.class ≡ e.class = (Decides-eqb n.class e.class).0 accept.class in
    let pinned : ℕ → Option Value = pinned_value other.rule.conds elements n in
    let others = BindsOthers-negated other.rule.conds n other.sound.bound_once of_rule is in
    let grown = born_is_grown splits (demands_in program s.memory apart.rule c) done.changes s.next e apart.asked comes in
    let meet = regions_meet (split_of splits e.class) pinned grown.known e.values (λ attr value known. pinned_value-accepted other.rule.conds elements n b after e attr value others agrees accepted known) grown.so in
    let watched : Among (region e.class meet.number) (watched_regions splits other.rule elements n) =
    subst (λ k. Among (region e.class meet.number) (map (region k) (regions_by (split_of splits k) pinned))) (sym class) (Among-map (region e.class) meet.number (regions_by (split_of splits e.class) pinned) meet.of_one) in
    apart.no_clash (ClashIn-demands program s.memory apart.rule other.rule c d (region e.class meet.number) Grow Watch apart.at other.at
    (grown.grown meet.number meet.of_other) (negated_is_demanded program s.memory other.rule d n (region e.class meet.number) of_rule is watched) refl)

-- so what its negated condition elements refused they refuse
refuses_later : (program : Program) (s : State) (c d : Choice) (done : Effect) (apart : Apart program s.memory c d done.changes) (other : Matched program s.memory d) (n : Cond) → Among n other.rule.conds → RefusesLater (given other.rule.conds (elements_at s.memory d.tags)) s.memory (memory_after s done) n
refuses_later program s c d done apart other n of_rule b is agrees refused =
    let gone = removed_tags done.changes in
    let stays : Element → Bool = λ (x : Element). not (list_any (λ t. t == x.tag) gone) in
    let accepted : Element → Bool = λ (e : Element). is_some (accepts n b e) in
    none_from_each accepted (memory_after s done) (λ e among. by_side e (Among-append e (without s.memory gone) (born s.next done.changes) among))
  where
    by_side : (e : Element) → Among e (without s.memory (removed_tags done.changes)) ⊎ Among e (born s.next done.changes) → is_some (accepts n b e) ≡ false
    by_side e (inl left) = none_of (λ (x : Element). is_some (accepts n b x)) e s.memory refused (among_fewer (λ (x : Element). not (list_any (λ t. t == x.tag) (removed_tags done.changes))) e s.memory left)
    by_side e (inr comes) = not_none (is_some (accepts n b e)) (λ any. let after = some_after (accepts n b e) any in nothing_accepted_comes program s c d done apart other n b after.0 e of_rule is agrees comes after.1)

-- and the match is the same
same_match : (program : Program) (s : State) (c d : Choice) (done : Effect) → Apart program s.memory c d done.changes → (other : Matched program s.memory d) → match_of other.rule d.tags (memory_after s done) ≡ Ok other.last
same_match program s c d done apart other =
    let gives = given other.rule.conds (elements_at s.memory d.tags) in
    let bindings = no_bindings other.rule.vars in
    match_from-Walks 1 other.rule.conds (memory_after s done) other.last d.tags bindings
    (Walks-later gives s.memory (memory_after s done) other.last other.rule.conds (refuses_later program s c d done apart other) d.tags bindings (matched_stays program s c d done apart other) other.matched.tells (Agrees-nothing gives other.rule.vars) other.matched.walks)

-- the elements at tags are the same where each is
same_elements : (memory later : Memory) (tags : List ℕ) → ((tag : ℕ) → Among tag tags → element_at later tag ≡ element_at memory tag) → elements_at later tags ≡ elements_at memory tags
same_elements memory later [] same = refl
same_elements memory later (tag ∷ tags) same =
    ap (λ o. cons_option o (elements_at later tags)) (same tag (inl refl)) ∙ ap (cons_option (element_at memory tag)) (same_elements memory later tags (λ t among. same t (inr among)))

-- a choice that hasn't fired hasn't after another has
not_the_same : (c d : Choice) → same_choice c d ≡ false → same_choice d c ≡ false
not_the_same c d differs = not_none (same_choice d c) (λ same. true≢false (sym (same_choice-itself c) ∙ ap (same_choice c) (sym (same_choice-equal d c same)) ∙ differs))

not_among : (c d : Choice) (choices : List Choice) → same_choice c d ≡ false → list_any (same_choice d) choices ≡ false → list_any (same_choice d) (choices ++ c ∷ []) ≡ false
not_among c d choices differs unfired = none_from_each (same_choice d) (choices ++ c ∷ []) (λ x among. by_side x (Among-append x choices (c ∷ []) among))
  where
    by_side : (x : Choice) → Among x choices ⊎ Among x (c ∷ []) → same_choice d x ≡ false
    by_side x (inl before) = none_of (same_choice d) x choices unfired before
    by_side x (inr (inl same)) = ap (same_choice d) same ∙ not_the_same c d differs
    by_side x (inr (inr never)) = absurd never

-- under both refractions: `Renewed` only forgets
still_unfired : (refraction : Refraction) (program : Program) (memory : Memory) (d : Choice) (fired : List Choice) → list_any (same_choice d) fired ≡ false → list_any (same_choice d) (still_fired refraction program memory fired) ≡ false
still_unfired Once program memory d fired unfired = unfired
still_unfired Renewed program memory d fired unfired = not_none (list_any (same_choice d) (filter (is_listed program memory) fired)) (λ any. true≢false (sym (any_filtered d (is_listed program memory) fired any) ∙ unfired))

-- the state after the commit leaves the other undisturbed
undisturbed : (program : Program) (s : State) (c d : Choice) (done : Effect) → Apart program s.memory c d done.changes → Matched program s.memory d → same_choice c d ≡ false → IsReady program s d → IsUndisturbed program s (committed program s c done) d
undisturbed program s c d done apart other differs ready =
    let later = memory_after s done in
    let match = same_match program s c d done apart other in
    record {
      ready = record {
        listed = list_any-matches program later d (matches-match_of program later d other.rule other.last other.at match);
        unfired = still_unfired s.refraction program later d (s.fired ++ c ∷ []) (not_among c d s.fired differs ready.unfired);
      };
      elements = same_elements s.memory later d.tags (matched_stays program s c d done apart other);
      bindings = λ rule at.
          let same : Some other.rule ≡ Some rule = sym other.at ∙ at in
          let rule_is : other.rule ≡ rule = cc in
          subst (λ (r : Rule). match_of r d.tags later ≡ match_of r d.tags s.memory) rule_is (match ∙ sym other.is);
    }

-- of two different choices that are ready and don't clash, neither disturbs the other
pub IsUndisturbed-step : (program : Program) (s : State) (c d : Choice) (after : State) → IsSound program → IsState (sizes_of program.classes) s → IsReady program s c → IsReady program s d → same_choice c d ≡ false → (ClashIn program s.memory c d → ⊥) → step program s c ≡ Some after → IsUndisturbed program s after d
IsUndisturbed-step program s c d after sound state ready_c ready_d differs no_clash steps =
    let made = IsStep-from_step program s c after steps in
    let rises = state.elements.rising in
    let first = Matched-matches program s.memory c sound (IsMatch-matches program s.memory c (matches_at_step program s c after steps)) in
    let other = Matched-matches program s.memory d sound (IsMatch-matches program s.memory d (matches-listed program s.memory d rises ready_d.listed)) in
    let has = HasRule-effect_of program s.memory c (Ok made.done) made.effect in
    let same : Some has.rule ≡ Some first.rule = sym has.is ∙ first.at in
    let rule_is : has.rule ≡ first.rule = cc in
    let ok : effect first.rule (elements_at s.memory c.tags) ≡ Ok made.done = subst (λ (r : Rule). effect r (elements_at s.memory c.tags) ≡ Ok made.done) rule_is has.effect_is in
    let apart : Apart program s.memory c d made.done.changes = record {
      rule = first.rule;
      at = first.at;
      asked = effect_is_asked_for program s.memory first.rule c first.last made.done first.matched first.is ok;
      no_clash = no_clash;
    } in
    subst (λ (t : State). IsUndisturbed program s t d) (sym made.commits) (undisturbed program s c d made.done apart other differs ready_d)
