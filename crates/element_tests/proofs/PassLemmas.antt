-- Tests taken one after another: each may be taken where it stands, and what those before it bound can be taken away.
use Rattle.std.proofs.Common.{◌≡◌, ℕ, ◌+◌, ◌<◌, List, [], ◌∷◌, ◌++◌, length, Bool, true, false, Option, Some, None, option_map, option_and_then, slice_get, get_or, take, drop, refl, sym, ◌∙◌, ap, subst, length-set, append_assoc, append-nil, ◌==◌}
use Rattle.std.specs.List.{AllByRecursion, list_any}
use Rattle.rule_base.specs.declared.value.Value.{Value}
use Rattle.rule_base.specs.declared.condition.Arg.TheVariants.{Con, Var}
use Rattle.rule_base.specs.declared.condition.Test.{Test}
use Rattle.rule_base.specs.declared.condition.Test.TheVariants.{Bind, Cmp, OneOf}
use Rattle.rule_base.specs.declared.condition.Cond.{Cond}
use Rattle.rule_base.specs.declared.element.Element.{Element}
use Rattle.rule_base.specs.Chains.{only_if}
use Rattle.rule_base.specs.Value.{same_value}
use Rattle.rule_base.specs.Predicate.{holds}
use Rattle.rule_base.specs.Sound.{SoundTest, SoundTests, known_after_test}
use Rattle.rule_base.specs.Bindings.{Bindings, bound}
use Rattle.rule_base.specs.Acceptance.{after_test, after_tests, compared_with}
use Rattle.rule_base.proofs.EachLemmas.{Each-append}
use Rattle.element_tests.specs.Asking.{BindsNew, HasPlace, HasValue}
use Rattle.element_tests.specs.Taking.{MayTake}
use Rattle.element_tests.specs.Unbinding.{unbound_by, Undoes}
use Rattle.element_tests.proofs.RowLemmas.{All-HasValue-bound, HasValue-known, HasValue-new, unbound_by-bound, unbound_by-same}
use Rattle.element_tests.proofs.PlaceLemmas.{drop_at_place, take_to_place}

-- a sound test may be taken
pub MayTake-sound : (b : Bindings) (values : List Value) (known : List ℕ) (test : Test) → AllByRecursion (HasValue b) known → SoundTest (length values) (length b) known test → MayTake b values test
MayTake-sound b values known (Bind attr var) has sound = sound
MayTake-sound b values known (Cmp attr pred (Con value)) has sound = (sound.0, tt)
MayTake-sound b values known (Cmp attr pred (Var var)) has sound = (sound.0, (sound.1.0, HasValue-known b var known has sound.1.1))
MayTake-sound b values known (OneOf attr among) has sound = sound

-- the variable that a sound test binds has a place
pub HasPlace-sound : (size vars : ℕ) (known : List ℕ) (test : Test) → SoundTest size vars known test → HasPlace vars test
HasPlace-sound size vars known (Bind attr var) sound = sound.1
HasPlace-sound size vars known (Cmp attr pred other) sound = tt
HasPlace-sound size vars known (OneOf attr among) sound = tt

-- what a test that holds does to the row
abbrev pub IsTaken : Bindings → Bindings → Test → Type 0
IsTaken b after (Bind attr var) = (v : Value) × (after ≡ bound b var v)
IsTaken b after (Cmp attr pred other) = after ≡ b
IsTaken b after (OneOf attr among) = after ≡ b

by_found : (b after : Bindings) (var : ℕ) (found : Option Value) → option_map (bound b var) found ≡ Some after → (v : Value) × (after ≡ bound b var v)
by_found b after var None is = absurd (let wrong : ⊥ = cc in wrong)
by_found b after var (Some v) is = let same : after ≡ bound b var v = cc in (v, same)

by_test : (b after : Bindings) (passes : Bool) → only_if passes b ≡ Some after → after ≡ b
by_test b after true is = let same : after ≡ b = cc in same
by_test b after false is = absurd (let wrong : ⊥ = cc in wrong)

by_value : (b after : Bindings) (o : Option Value) (next : Value → Option Bindings) → ((v : Value) → next v ≡ Some after → after ≡ b) → option_and_then next o ≡ Some after → after ≡ b
by_value b after None next goes is = absurd (let wrong : ⊥ = cc in wrong)
by_value b after (Some v) next goes is = goes v is

pub IsTaken-after_test : (b after : Bindings) (values : List Value) (test : Test) → after_test test b values ≡ Some after → IsTaken b after test
IsTaken-after_test b after values (Bind attr var) is = by_found b after var (slice_get values attr) is
IsTaken-after_test b after values (Cmp attr pred other) is = by_value b after (slice_get values attr) (λ value. option_and_then (λ o. only_if (holds pred value o) b) (compared_with other b)) (λ value. by_value b after (compared_with other b) (λ o. only_if (holds pred value o) b) (λ o. by_test b after (holds pred value o))) is
IsTaken-after_test b after values (OneOf attr among) is = by_value b after (slice_get values attr) (λ value. only_if (list_any (same_value value) among) b) (λ value. by_test b after (list_any (same_value value) among)) is

pub length-taken : (b after : Bindings) (test : Test) → IsTaken b after test → length after ≡ length b
length-taken b after (Bind attr var) taken = ap length taken.1 ∙ length-set b var (Some taken.0)
length-taken b after (Cmp attr pred other) taken = ap length taken
length-taken b after (OneOf attr among) taken = ap length taken

-- what is known after a test has a value
pub known-taken : (size vars : ℕ) (known : List ℕ) (b after : Bindings) (test : Test) → vars ≡ length b → AllByRecursion (HasValue b) known → SoundTest size vars known test → IsTaken b after test → AllByRecursion (HasValue after) (known_after_test known test)
known-taken size vars known b after (Bind attr var) long has sound taken =
    let within : var < length b = subst (λ n. var < n) long sound.1 in
    subst (λ c. AllByRecursion (HasValue c) (var ∷ known)) (sym taken.1) (HasValue-new b var taken.0 within, All-HasValue-bound b var taken.0 known has)
known-taken size vars known b after (Cmp attr pred other) long has sound taken = subst (λ c. AllByRecursion (HasValue c) known) (sym taken) has
known-taken size vars known b after (OneOf attr among) long has sound taken = subst (λ c. AllByRecursion (HasValue c) known) (sym taken) has

-- what tests before it and a test bound can be taken away together
pub unbound_by-taken : (tests : List Test) (b after before : Bindings) (test : Test) → BindsNew before test → unbound_by b tests ≡ before → IsTaken b after test → unbound_by after (tests ++ test ∷ []) ≡ before
unbound_by-taken tests b after before (Bind attr var) new back taken = subst (λ c. unbound_by c (tests ++ Bind attr var ∷ []) ≡ before) (sym taken.1) (unbound_by-bound tests b before attr var taken.0 new back)
unbound_by-taken tests b after before (Cmp attr pred other) new back taken = subst (λ c. unbound_by c (tests ++ Cmp attr pred other ∷ []) ≡ before) (sym taken) (unbound_by-same tests b before (Cmp attr pred other) (λ c. refl) back)
unbound_by-taken tests b after before (OneOf attr among) new back taken = subst (λ c. unbound_by c (tests ++ OneOf attr among ∷ []) ≡ before) (sym taken) (unbound_by-same tests b before (OneOf attr among) (λ c. refl) back)

-- a row that the tests so far have led to from the one before them
pub record IsPassing (tests : List Test) (before : Bindings) (values : List Value) (i : ℕ) (b : Bindings) : Type 0 where
  -- the tests that are left lead to the same end
  pub same : after_tests tests before values ≡ after_tests (drop i tests) b values
  pub long : length b ≡ length before
  pub back : unbound_by b (take i tests) ≡ before
  pub placed : AllByRecursion (HasPlace (length before)) (take i tests)
  pub known : List ℕ
  pub have_values : AllByRecursion (HasValue b) known
  pub sound : SoundTests (length values) (length before) known (drop i tests)
  pub binds_new : AllByRecursion (BindsNew before) (drop i tests)

-- the test at hand, and those after it
pub record IsNext (tests : List Test) (before : Bindings) (values : List Value) (i : ℕ) (b : Bindings) (test : Test) (known : List ℕ) : Type 0 where
  pub same : after_tests tests before values ≡ option_and_then (λ after. after_tests (drop (i + 1) tests) after values) (after_test test b values)
  pub sound : SoundTest (length values) (length before) known test
  pub sound_rest : SoundTests (length values) (length before) (known_after_test known test) (drop (i + 1) tests)
  pub new : BindsNew before test
  pub new_rest : AllByRecursion (BindsNew before) (drop (i + 1) tests)

pub IsNext-passing : (tests : List Test) (before : Bindings) (values : List Value) (i : ℕ) (b : Bindings) (test : Test) → i < length tests → test ≡ get_or tests i test → (passing : IsPassing tests before values i b) → IsNext tests before values i b test passing.known
IsNext-passing tests before values i b test within at passing =
    let split = drop_at_place tests i test within at in
    let sound : SoundTests (length values) (length before) passing.known (test ∷ drop (i + 1) tests) = subst (SoundTests (length values) (length before) passing.known) split passing.sound in
    let new : AllByRecursion (BindsNew before) (test ∷ drop (i + 1) tests) = subst (AllByRecursion (BindsNew before)) split passing.binds_new in
    record {
      same = passing.same ∙ ap (λ rest. after_tests rest b values) split;
      sound = sound.0;
      sound_rest = sound.1;
      new = new.0;
      new_rest = new.1;
    }

pub MayTake-passing : (tests : List Test) (before : Bindings) (values : List Value) (i : ℕ) (b : Bindings) (test : Test) → i < length tests → test ≡ get_or tests i test → IsPassing tests before values i b → MayTake b values test
MayTake-passing tests before values i b test within at passing =
    let next = IsNext-passing tests before values i b test within at passing in
    MayTake-sound b values passing.known test passing.have_values (subst (λ n. SoundTest (length values) n passing.known test) (sym passing.long) next.sound)

-- where the test at hand fails, all of them do
pub fails-passing : (tests : List Test) (before : Bindings) (values : List Value) (i : ℕ) (b : Bindings) (test : Test) → i < length tests → test ≡ get_or tests i test → IsPassing tests before values i b → after_test test b values ≡ None → after_tests tests before values ≡ None
fails-passing tests before values i b test within at passing none =
    let next = IsNext-passing tests before values i b test within at passing in
    next.same ∙ ap (option_and_then (λ after. after_tests (drop (i + 1) tests) after values)) none

-- one test further
pub IsPassing-more : (tests : List Test) (before : Bindings) (values : List Value) (i : ℕ) (b after : Bindings) (test : Test) → i < length tests → test ≡ get_or tests i test → IsPassing tests before values i b → after_test test b values ≡ Some after → IsPassing tests before values (i + 1) after
IsPassing-more tests before values i b after test within at passing passed =
    let next = IsNext-passing tests before values i b test within at passing in
    let taken = IsTaken-after_test b after values test passed in
    let more = take_to_place tests i test within at in
    record {
      same = next.same ∙ ap (option_and_then (λ c. after_tests (drop (i + 1) tests) c values)) passed;
      long = length-taken b after test taken ∙ passing.long;
      back = ap (unbound_by after) more ∙ unbound_by-taken (take i tests) b after before test next.new passing.back taken;
      placed = subst (AllByRecursion (HasPlace (length before))) (sym more) (Each-append (HasPlace (length before)) (take i tests) (test ∷ []) passing.placed (HasPlace-sound (length values) (length before) passing.known test next.sound, tt));
      known = known_after_test passing.known test;
      have_values = known-taken (length values) (length before) passing.known b after test (sym passing.long) passing.have_values next.sound taken;
      sound = next.sound_rest;
      binds_new = next.new_rest;
    }

-- what these tests bind can be taken away with what the tests before them bound
abbrev RestIsUndone : Bindings → List Value → List Test → Bindings → Type 0
RestIsUndone before values tests after = (first : List Test) (b : Bindings) → unbound_by b first ≡ before → after_tests tests b values ≡ Some after → unbound_by after (first ++ tests) ≡ before

by_first : (before : Bindings) (values : List Value) (test : Test) (tests : List Test) (after : Bindings) (first : List Test) (b : Bindings) (o : Option Bindings) → after_test test b values ≡ o → BindsNew before test → RestIsUndone before values tests after → unbound_by b first ≡ before → option_and_then (λ c. after_tests tests c values) o ≡ Some after → unbound_by after (first ++ test ∷ tests) ≡ before
by_first before values test tests after first b None at new rest back is = absurd (let wrong : ⊥ = cc in wrong)
by_first before values test tests after first b (Some c) at new rest back is =
    let taken = IsTaken-after_test b c values test at in
    ap (unbound_by after) (sym (append_assoc first (test ∷ []) tests)) ∙ rest (first ++ test ∷ []) c (unbound_by-taken first b c before test new back taken) is

is_undone : (before : Bindings) (values : List Value) (tests : List Test) (after : Bindings) → AllByRecursion (BindsNew before) tests → RestIsUndone before values tests after
is_undone before values [] after new first b back is =
    let same : after ≡ b = cc in
    ap (unbound_by after) (append-nil first) ∙ ap (λ c. unbound_by c first) same ∙ back
is_undone before values (test ∷ tests) after new first b back is = by_first before values test tests after first b (after_test test b values) refl new.0 (is_undone before values tests after new.1) back is

by_class : (cond : Cond) (before after : Bindings) (e : Element) (same : Bool) → AllByRecursion (BindsNew before) cond.tests → option_and_then (λ given. after_tests cond.tests given e.values) (only_if same before) ≡ Some after → unbound_by after cond.tests ≡ before
by_class cond before after e true new is = is_undone before e.values cond.tests after new [] before refl is
by_class cond before after e false new is = absurd (let wrong : ⊥ = cc in wrong)

-- taking away what a condition element binds undoes its acceptance
pub Undoes-unbound_by : (cond : Cond) (after : Bindings) → Undoes cond after (unbound_by after cond.tests)
Undoes-unbound_by cond after before e may is = by_class cond before after e (cond.class == e.class) may.binds_new is
