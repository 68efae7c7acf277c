-- What a run leaves: its journal, its refraction, and the choices that have fired under each.
use Rattle.std.proofs.Common.{◌≡◌, Bool, true, false, not, ◌&&◌, ◌||◌, List, [], ◌∷◌, ◌++◌, Option, Some, None, option_and_then, refl, sym, ap, ◌∙◌, subst, true≢false, append_assoc, append-nil}
use Rattle.std.specs.List.{AllByRecursion, IsDistinct, list_any}
use Rattle.std.proofs.lemmas.List.{map-append}
use Rattle.rule_base.specs.declared.instantiation.Choice.{Choice}
use Rattle.rule_base.specs.declared.entry.Entry.{Entry}
use Rattle.rule_base.specs.declared.program.Program.{Program}
use Rattle.rule_base.specs.declared.base.Refraction.{Refraction}
use Rattle.rule_base.specs.declared.base.Refraction.TheVariants.{Once, Renewed}
use Rattle.rule_base.specs.Memory.{Memory}
use Rattle.rule_base.specs.State.{State, choices_of, same_choice, has_fired}
use Rattle.rule_base.specs.Step.{entry_of, is_listed, matches, memory_after, step, still_fired}
use Rattle.rule_base.specs.Run.{run}
use Rattle.rule_base.specs.Base.{StillMatch}
use Rattle.rule_base.specs.RunLaws.{FiresOnce, HasStopped}
use Rattle.rule_base.proofs.AmongLemmas.{any_append_left, any_append_right}
use Rattle.rule_base.proofs.ChoiceLemmas.{any_filter, same_choice-differs, same_choice-itself}
use Rattle.rule_base.proofs.EachLemmas.{Each-filtered, Each-weaker}
use Rattle.rule_base.proofs.StepLemmas.{IsStep, IsStep-from_step, none_is_no_some, run-by_steps}

-- a choice that may be fired has not fired
third_fails : (a b c : Bool) → (a && b && not c) ≡ true → c ≡ false
third_fails a b false h = refl
third_fails true true true h = absurd (cc)
third_fails true false true h = absurd (cc)
third_fails false b true h = absurd (cc)

pub unfired_at_step : (program : Program) (s : State) (c : Choice) (after : State) → step program s c ≡ Some after → has_fired s c ≡ false
unfired_at_step program s c after steps = third_fails (not s.halted) (matches program s.memory c) (has_fired s c) (IsStep-from_step program s c after steps).may

-- and it matches
second_holds : (a b c : Bool) → (a && b && not c) ≡ true → b ≡ true
second_holds a true c h = refl
second_holds true false c h = absurd (cc)
second_holds false false c h = absurd (cc)

pub matches_at_step : (program : Program) (s : State) (c : Choice) (after : State) → step program s c ≡ Some after → matches program s.memory c ≡ true
matches_at_step program s c after steps = second_holds (not s.halted) (matches program s.memory c) (has_fired s c) (IsStep-from_step program s c after steps).may

-- what one step makes of the choices that have fired
fired_after : (program : Program) (s : State) (c : Choice) (after : State) → (made : IsStep program s c after) → after.fired ≡ still_fired s.refraction program (memory_after s made.done) (s.fired ++ c ∷ [])
fired_after program s c after made = ap (λ (t : State). t.fired) made.commits

-- one more after a list of others
one_more : (front before : List Choice) (c : Choice) (choices : List Choice) → front ≡ before ++ c ∷ [] → front ++ choices ≡ before ++ c ∷ choices
one_more front before c choices is = ap (λ f. f ++ choices) is ∙ append_assoc before (c ∷ []) choices

-- the journal tells the choices
told_first : (program : Program) (s t after : State) (c : Choice) (choices : List Choice) → step program s c ≡ Some t → choices_of after.entries ≡ choices_of t.entries ++ choices → choices_of after.entries ≡ choices_of s.entries ++ c ∷ choices
told_first program s t after c choices steps rest =
    let made = IsStep-from_step program s c t steps in
    let here : choices_of t.entries ≡ choices_of s.entries ++ c ∷ [] = ap (λ (u : State). choices_of u.entries) made.commits ∙ map-append (λ (entry : Entry). entry.choice) s.entries (entry_of s.next c made.done ∷ []) in
    rest ∙ one_more (choices_of t.entries) (choices_of s.entries) c choices here

pub told-run : (program : Program) (s : State) (choices : List Choice) (after : State) → run program s choices ≡ Some after → choices_of after.entries ≡ choices_of s.entries ++ choices
told-run program = run-by_steps program (λ s choices after. choices_of after.entries ≡ choices_of s.entries ++ choices) (λ s. sym (append-nil (choices_of s.entries))) (told_first program)

-- the refraction stays
pub refraction-step : (program : Program) (s : State) (c : Choice) (after : State) → step program s c ≡ Some after → after.refraction ≡ s.refraction
refraction-step program s c after steps = ap (λ (t : State). t.refraction) (IsStep-from_step program s c after steps).commits

pub refraction-run : (program : Program) (s : State) (choices : List Choice) (after : State) → run program s choices ≡ Some after → after.refraction ≡ s.refraction
refraction-run program = run-by_steps program (λ s choices after. after.refraction ≡ s.refraction) (λ s. refl) (λ s t after c choices steps rest. rest ∙ refraction-step program s c t steps)

-- under `Once` what fires stays fired
FiresOnce-nothing : (s : State) → FiresOnce s [] s
unfolding IsDistinct
FiresOnce-nothing s = record { fired = sym (append-nil s.fired); stays = λ c fired. fired; apart = tt; new = tt }

fired_once : (program : Program) (s : State) (c : Choice) (after : State) → s.refraction ≡ Once → step program s c ≡ Some after → after.fired ≡ s.fired ++ c ∷ []
fired_once program s c after once steps =
    let made = IsStep-from_step program s c after steps in
    fired_after program s c after made ∙ ap (λ r. still_fired r program (memory_after s made.done) (s.fired ++ c ∷ [])) once

-- a choice that is not among some choices and one more
differs_from : (d c : Choice) (fired : List Choice) → list_any (same_choice d) (fired ++ c ∷ []) ≡ false → (list_any (same_choice d) fired ≡ false) × (same_choice c d ≡ false)
differs_from d c fired none =
    (none_before (list_any (same_choice d) fired) refl, same_choice-differs d c (none_last (same_choice d c) refl))
  where
    none_before : (b : Bool) → list_any (same_choice d) fired ≡ b → list_any (same_choice d) fired ≡ false
    none_before false is = is
    none_before true is = absurd (true≢false (sym (any_append_left (same_choice d) fired (c ∷ []) is) ∙ none))

    none_last : (b : Bool) → same_choice d c ≡ b → same_choice d c ≡ false
    none_last false is = is
    none_last true is = absurd (true≢false (sym (any_append_right (same_choice d) fired (c ∷ []) (let here : (same_choice d c || false) ≡ true = rw is refl in here)) ∙ none))

FiresOnce-first : (program : Program) (s t after : State) (c : Choice) (choices : List Choice) → step program s c ≡ Some t → (t.refraction ≡ Once → FiresOnce t choices after) → s.refraction ≡ Once → FiresOnce s (c ∷ choices) after
unfolding IsDistinct
FiresOnce-first program s t after c choices steps later once =
    let rest = later (refraction-step program s c t steps ∙ once) in
    let here = fired_once program s c t once steps in
    let others : AllByRecursion (λ (d : Choice). (list_any (same_choice d) s.fired ≡ false) × (same_choice c d ≡ false)) choices =
    Each-weaker (λ (d : Choice). has_fired t d ≡ false) (λ (d : Choice). (list_any (same_choice d) s.fired ≡ false) × (same_choice c d ≡ false))
    (λ d none. differs_from d c s.fired (subst (λ (cs : List Choice). list_any (same_choice d) cs ≡ false) here none)) choices rest.new in
    record {
      fired = rest.fired ∙ one_more t.fired s.fired c choices here;
      stays = λ d fired. rest.stays d (subst (λ (cs : List Choice). list_any (same_choice d) cs ≡ true) (sym here) (any_append_left (same_choice d) s.fired (c ∷ []) fired));
      apart = (Each-weaker (λ (d : Choice). (list_any (same_choice d) s.fired ≡ false) × (same_choice c d ≡ false)) (λ (d : Choice). same_choice c d ≡ false) (λ d both. both.1) choices others, rest.apart);
      new = (unfired_at_step program s c t steps, Each-weaker (λ (d : Choice). (list_any (same_choice d) s.fired ≡ false) × (same_choice c d ≡ false)) (λ (d : Choice). has_fired s d ≡ false) (λ d both. both.0) choices others);
    }

pub FiresOnce-run : (program : Program) (s : State) (choices : List Choice) (after : State) → run program s choices ≡ Some after → s.refraction ≡ Once → FiresOnce s choices after
FiresOnce-run program = run-by_steps program (λ s choices after. s.refraction ≡ Once → FiresOnce s choices after) (λ s once. FiresOnce-nothing s) (FiresOnce-first program)

-- what stays fired under `Renewed` is in the conflict set
pub StillMatch-still : (r : Refraction) (program : Program) (memory : Memory) (fired : List Choice) → StillMatch r program memory (still_fired r program memory fired)
StillMatch-still Once program memory fired = tt
StillMatch-still Renewed program memory fired = Each-filtered (is_listed program memory) fired

pub StillMatch-step : (program : Program) (s : State) (c : Choice) (after : State) → step program s c ≡ Some after → StillMatch after.refraction program after.memory after.fired
StillMatch-step program s c after steps =
    let made = IsStep-from_step program s c after steps in
    subst (λ (t : State). StillMatch t.refraction program t.memory t.fired) (sym made.commits) (StillMatch-still s.refraction program (memory_after s made.done) (s.fired ++ c ∷ []))

pub StillMatch-run : (program : Program) (s : State) (choices : List Choice) (after : State) → run program s choices ≡ Some after → StillMatch s.refraction program s.memory s.fired → StillMatch after.refraction program after.memory after.fired
StillMatch-run program = run-by_steps program (λ s choices after. StillMatch s.refraction program s.memory s.fired → StillMatch after.refraction program after.memory after.fired) (λ s matching. matching) (λ s t after c choices steps rest matching. rest (StillMatch-step program s c t steps))

-- under `Renewed` a choice that has fired, or fires now, is fired after a step, or isn't in the conflict set any more
stays_fired : (program : Program) (s : State) (d c : Choice) (after : State) → s.refraction ≡ Renewed → step program s d ≡ Some after → list_any (same_choice c) (s.fired ++ d ∷ []) ≡ true → is_listed program after.memory c ≡ true → has_fired after c ≡ true
stays_fired program s d c after renewed steps fired listed =
    let made = IsStep-from_step program s d after steps in
    let memory = memory_after s made.done in
    let kept : after.fired ≡ still_fired Renewed program memory (s.fired ++ d ∷ []) = fired_after program s d after made ∙ ap (λ r. still_fired r program memory (s.fired ++ d ∷ [])) renewed in
    let here : is_listed program memory c ≡ true = subst (λ m. is_listed program m c ≡ true) (ap (λ (t : State). t.memory) made.commits) listed in
    subst (λ (cs : List Choice). list_any (same_choice c) cs ≡ true) (sym kept) (any_filter c (is_listed program memory) (s.fired ++ d ∷ []) fired here)

-- a choice that has fired, and fires later again
fires_later : (program : Program) (s : State) (c : Choice) (later : List Choice) (o : Option State) → step program s c ≡ o → has_fired s c ≡ true → option_and_then (λ t. run program t later) o ≡ None
fires_later program s c later None steps fired = refl
fires_later program s c later (Some t) steps fired = absurd (true≢false (sym fired ∙ unfired_at_step program s c t steps))

-- so it stops after one of the firings between
record StopsAfter (program : Program) (s : State) (c : Choice) (between : List Choice) : Type 0 where
  front : List Choice
  back : List Choice
  parts : between ≡ front ++ back
  there : State
  ran : run program s front ≡ Some there
  stopped : is_listed program there.memory c ≡ false

-- it does where it does from the next state on
abbrev StopsFrom : Program → Choice → List Choice → List Choice → State → Type 0
StopsFrom program c between later after = (t : State) → t.refraction ≡ Renewed → has_fired t c ≡ true → run program t (between ++ c ∷ later) ≡ Some after → StopsAfter program t c between

stops_here : (program : Program) (s t : State) (d c : Choice) (between later : List Choice) (after : State) (b : Bool) → StopsFrom program c between later after → is_listed program t.memory c ≡ b → step program s d ≡ Some t → s.refraction ≡ Renewed → list_any (same_choice c) (s.fired ++ d ∷ []) ≡ true → run program t (between ++ c ∷ later) ≡ Some after → StopsAfter program s c (d ∷ between)
stops_here program s t d c between later after false from listed steps renewed fired ran = record { front = d ∷ []; back = between; parts = refl; there = t; ran = ap (option_and_then (λ (u : State). Some u)) steps; stopped = listed }
stops_here program s t d c between later after true from listed steps renewed fired ran =
    let rest = from t (refraction-step program s d t steps ∙ renewed) (stays_fired program s d c t renewed steps fired listed) ran in
    record {
      front = d ∷ rest.front;
      back = rest.back;
      parts = ap (λ cs. d ∷ cs) rest.parts;
      there = rest.there;
      ran = ap (option_and_then (λ (u : State). run program u rest.front)) steps ∙ rest.ran;
      stopped = rest.stopped;
    }

stops_next : (program : Program) (s : State) (d c : Choice) (between later : List Choice) (after : State) (o : Option State) → StopsFrom program c between later after → step program s d ≡ o → s.refraction ≡ Renewed → has_fired s c ≡ true → option_and_then (λ t. run program t (between ++ c ∷ later)) o ≡ Some after → StopsAfter program s c (d ∷ between)
stops_next program s d c between later after None from steps renewed fired ran = absurd (none_is_no_some ran)
stops_next program s d c between later after (Some t) from steps renewed fired ran =
    stops_here program s t d c between later after (is_listed program t.memory c) from refl steps renewed (any_append_left (same_choice c) s.fired (d ∷ []) fired) ran

stops_among : (program : Program) (c : Choice) (between later : List Choice) (after : State) → StopsFrom program c between later after
stops_among program c [] later after s renewed fired ran = absurd (none_is_no_some (sym (fires_later program s c later (step program s c) refl fired) ∙ ran))
stops_among program c (d ∷ between) later after s renewed fired ran = stops_next program s d c between later after (step program s d) (stops_among program c between later after) refl renewed fired ran

-- the first firing, after which it may have stopped already
stops_first : (program : Program) (s t : State) (c : Choice) (between later : List Choice) (after : State) (b : Bool) → is_listed program t.memory c ≡ b → step program s c ≡ Some t → s.refraction ≡ Renewed → run program t (between ++ c ∷ later) ≡ Some after → HasStopped program s c between
stops_first program s t c between later after false listed steps renewed ran = record { front = []; back = between; parts = refl; there = t; ran = ap (option_and_then (λ (u : State). Some u)) steps; stopped = listed }
stops_first program s t c between later after true listed steps renewed ran =
    let now : list_any (same_choice c) (s.fired ++ c ∷ []) ≡ true = any_append_right (same_choice c) s.fired (c ∷ []) (same_first (same_choice c c) (same_choice-itself c)) in
    let rest = stops_among program c between later after t (refraction-step program s c t steps ∙ renewed) (stays_fired program s c c t renewed steps now listed) ran in
    record {
      front = rest.front;
      back = rest.back;
      parts = rest.parts;
      there = rest.there;
      ran = ap (option_and_then (λ (u : State). run program u rest.front)) steps ∙ rest.ran;
      stopped = rest.stopped;
    }
  where
    same_first : (b : Bool) → b ≡ true → (b || false) ≡ true
    same_first true is = refl
    same_first false is = absurd (let wrong : ⊥ = cc in wrong)

has_stopped : (program : Program) (s : State) (c : Choice) (between later : List Choice) (after : State) (o : Option State) → step program s c ≡ o → s.refraction ≡ Renewed → option_and_then (λ t. run program t (between ++ c ∷ later)) o ≡ Some after → HasStopped program s c between
has_stopped program s c between later after None steps renewed ran = absurd (none_is_no_some ran)
has_stopped program s c between later after (Some t) steps renewed ran = stops_first program s t c between later after (is_listed program t.memory c) refl steps renewed ran

pub HasStopped-run : (program : Program) (s : State) (c : Choice) (between later : List Choice) (after : State) → s.refraction ≡ Renewed → run program s (c ∷ (between ++ c ∷ later)) ≡ Some after → HasStopped program s c between
HasStopped-run program s c between later after renewed ran = has_stopped program s c between later after (step program s c) refl renewed ran
