-- What tests leave in the bindings: the values that they take, and what was there.
use Rattle.std.proofs.Common.{◌≡◌, ℕ, ◌<◌, List, [], ◌∷◌, true, Option, Some, None, ◌⊎◌, inl, inr, is_some, length, option_and_then, slice_get, zero, suc, refl, sym, ◌∙◌, ap, subst, arith, length-set, ◌==◌}
use Rattle.rule_base.specs.declared.value.Value.{Value}
use Rattle.rule_base.specs.declared.element.Element.{Element}
use Rattle.rule_base.specs.declared.condition.Arg.{Arg}
use Rattle.rule_base.specs.declared.condition.Pred.{Pred}
use Rattle.rule_base.specs.declared.condition.Test.{Test}
use Rattle.rule_base.specs.declared.condition.Test.TheVariants.{Bind, Cmp, OneOf}
use Rattle.rule_base.specs.declared.condition.Cond.{Cond}
use Rattle.rule_base.specs.Chains.{only_if}
use Rattle.rule_base.specs.Predicate.{holds}
use Rattle.rule_base.specs.Bindings.{Bindings, binding_of, bound, no_bindings}
use Rattle.rule_base.specs.Acceptance.{accepts, after_test, after_tests, compared_with}
use Rattle.rule_base.specs.Sound.{SoundTests, known_after_test}
use Rattle.rule_base.proofs.AmongLemmas.{Among}
use Rattle.interference.specs.Given.{value_at}
use Rattle.interference.proofs.OptionLemmas.{Gave-some, GaveMapped-some, Held-some}

-- a value that a variable has once another is bound is the new one, or was there
pub bound_or_before : (b : Bindings) (var w : ℕ) (value x : Value) → binding_of (bound b var value) w ≡ Some x → ((w ≡ var) × (value ≡ x)) ⊎ (binding_of b w ≡ Some x)
bound_or_before [] var w value x is = inr is
bound_or_before (o ∷ b) zero zero value x is = inl (refl, cc)
bound_or_before (o ∷ b) zero (suc w) value x is = inr is
bound_or_before (o ∷ b) (suc var) zero value x is = inr is
bound_or_before (o ∷ b) (suc var) (suc w) value x is = next (bound_or_before b var w value x is)
  where
    next : ((w ≡ var) × (value ≡ x)) ⊎ (binding_of b w ≡ Some x) → ((suc w ≡ suc var) × (value ≡ x)) ⊎ (binding_of b w ≡ Some x)
    next (inl new) = inl (ap suc new.0, new.1)
    next (inr before) = inr before

pub binding_of-none : (vars var : ℕ) → binding_of (no_bindings vars) var ≡ None
binding_of-none zero var = refl
binding_of-none (suc vars) zero = refl
binding_of-none (suc vars) (suc var) = binding_of-none vars var

-- a variable that isn't bound here keeps its value
pub binding_of-bound : (b : Bindings) (var w : ℕ) (value : Value) → (var ≡ w → ⊥) → binding_of (bound b var value) w ≡ binding_of b w
binding_of-bound [] var w value other = refl
binding_of-bound (o ∷ b) zero zero value other = absurd (other refl)
binding_of-bound (o ∷ b) zero (suc w) value other = refl
binding_of-bound (o ∷ b) (suc var) zero value other = refl
binding_of-bound (o ∷ b) (suc var) (suc w) value other = binding_of-bound b var w value (λ same. other (ap suc same))

-- a variable has some value
abbrev pub HasValue : Bindings → ℕ → Type 0
HasValue b var = is_some (binding_of b var) ≡ true

HasValue-stays : (b : Bindings) (var w : ℕ) (value : Value) → HasValue b w → HasValue (bound b var value) w
HasValue-stays [] var w value has = has
HasValue-stays (o ∷ b) zero zero value has = refl
HasValue-stays (o ∷ b) zero (suc w) value has = has
HasValue-stays (o ∷ b) (suc var) zero value has = has
HasValue-stays (o ∷ b) (suc var) (suc w) value has = HasValue-stays b var w value has

HasValue-bound : (b : Bindings) (var : ℕ) (value : Value) → var < length b → HasValue (bound b var value) var
HasValue-bound [] var value within = absurd (omega (arith, within))
HasValue-bound (o ∷ b) zero value within = refl
HasValue-bound (o ∷ b) (suc var) value within = HasValue-bound b var value (omega (arith, within))

-- a comparison that held, and changed nothing
pub record IsCompared (attr : ℕ) (pred : Pred) (arg : Arg) (b : Bindings) (values : List Value) (after : Bindings) : Type 0 where
  pub value : Value
  pub other : Value
  pub at : slice_get values attr ≡ Some value
  pub compared : compared_with arg b ≡ Some other
  pub held : holds pred value other ≡ true
  pub same : b ≡ after

pub IsCompared-passed : (attr : ℕ) (pred : Pred) (arg : Arg) (b : Bindings) (values : List Value) (after : Bindings) → after_test (Cmp attr pred arg) b values ≡ Some after → IsCompared attr pred arg b values after
IsCompared-passed attr pred arg b values after passed =
    let first = Gave-some (slice_get values attr) (λ value. option_and_then (λ other. only_if (holds pred value other) b) (compared_with arg b)) after passed in
    let second = Gave-some (compared_with arg b) (λ other. only_if (holds pred first.first other) b) after first.next_is in
    let third = Held-some (holds pred first.first second.first) b after second.next_is in
    record { value = first.first; other = second.first; at = first.is; compared = second.is; held = third.holds; same = third.same }

pub one_of_same : (attr : ℕ) (among : List Value) (b : Bindings) (values : List Value) (after : Bindings) → after_test (OneOf attr among) b values ≡ Some after → b ≡ after
one_of_same attr among b values after passed =
    let first = Gave-some (slice_get values attr) (λ value. only_if _ b) after passed in
    (Held-some _ b after first.next_is).same

-- what holds of bindings goes on holding through tests, where it does through each that binds
pub kept_by_tests : (P : Bindings → Type 0) (tests : List Test) (b after : Bindings) (values : List Value) → ((attr var : ℕ) (value : Value) (now : Bindings) → Among (Bind attr var) tests → slice_get values attr ≡ Some value → P now → P (bound now var value))
    → P b → after_tests tests b values ≡ Some after → P after
kept_by_tests P [] b after values keeps of_b passed = let same : b ≡ after = cc in subst P same of_b
kept_by_tests P (Bind attr var ∷ tests) b after values keeps of_b passed =
    let gave = Gave-some (after_test (Bind attr var) b values) (λ mid. after_tests tests mid values) after passed in
    let value = GaveMapped-some (slice_get values attr) (bound b var) gave.first gave.is in
    kept_by_tests P tests gave.first after values (λ at u v now among. keeps at u v now (inr among)) (subst P value.last_is (keeps attr var value.first b (inl refl) value.is of_b)) gave.next_is
kept_by_tests P (Cmp attr pred arg ∷ tests) b after values keeps of_b passed =
    let gave = Gave-some (after_test (Cmp attr pred arg) b values) (λ mid. after_tests tests mid values) after passed in
    kept_by_tests P tests gave.first after values (λ at u v now among. keeps at u v now (inr among)) (subst P (IsCompared-passed attr pred arg b values gave.first gave.is).same of_b) gave.next_is
kept_by_tests P (OneOf attr among ∷ tests) b after values keeps of_b passed =
    let gave = Gave-some (after_test (OneOf attr among) b values) (λ mid. after_tests tests mid values) after passed in
    kept_by_tests P tests gave.first after values (λ at u v now among'. keeps at u v now (inr among')) (subst P (one_of_same attr among b values gave.first gave.is) of_b) gave.next_is

-- an element that is accepted is of the class, and passes the tests
pub record IsAccepted (c : Cond) (b : Bindings) (e : Element) (after : Bindings) : Type 0 where
  pub class : (c.class == e.class) ≡ true
  pub passed : after_tests c.tests b e.values ≡ Some after

pub IsAccepted-accepts : (c : Cond) (b : Bindings) (e : Element) (after : Bindings) → accepts c b e ≡ Some after → IsAccepted c b e after
IsAccepted-accepts c b e after accepted =
    let gave = Gave-some (only_if (c.class == e.class) b) (λ given. after_tests c.tests given e.values) after accepted in
    let held = Held-some (c.class == e.class) b gave.first gave.is in
    record { class = held.holds; passed = subst (λ given. after_tests c.tests given e.values ≡ Some after) (sym held.same) gave.next_is }

-- bindings that have only what is given
abbrev pub Agrees : (ℕ → Option Value) → Bindings → Type 0
Agrees gives b = (var : ℕ) (value : Value) → binding_of b var ≡ Some value → gives var ≡ Some value

-- what is given to the variables that tests of the pair bind is what they take
abbrev pub Tells : (ℕ → Option Value) → Cond × Element → Type 0
Tells gives pair = (attr var : ℕ) → Among (Bind attr var) pair.0.tests → gives var ≡ value_at pair attr

pub value_at-class : (pair : Cond × Element) (attr : ℕ) → (pair.0.class == pair.1.class) ≡ true → value_at pair attr ≡ slice_get pair.1.values attr
value_at-class pair attr class = ap (λ b. option_and_then (λ (e : Element). slice_get e.values attr) (only_if b pair.1)) class

-- a positive condition element keeps them so
pub Agrees-accepted : (gives : ℕ → Option Value) (c : Cond) (e : Element) (b after : Bindings) → Tells gives (c, e) → Agrees gives b → accepts c b e ≡ Some after → Agrees gives after
Agrees-accepted gives c e b after tells agrees accepted =
    let is = IsAccepted-accepts c b e after accepted in
    kept_by_tests (Agrees gives) c.tests b after e.values (λ attr var value now among at before w x now_is. by_either attr var value now w x among at before is.class (bound_or_before now var w value x now_is)) agrees is.passed
  where
    by_either : (attr var : ℕ) (value : Value) (now : Bindings) (w : ℕ) (x : Value) → Among (Bind attr var) c.tests → slice_get e.values attr ≡ Some value → Agrees gives now → (c.class == e.class) ≡ true → ((w ≡ var) × (value ≡ x)) ⊎ (binding_of now w ≡ Some x) → gives w ≡ Some x
    by_either attr var value now w x among at before class (inl new) = ap gives new.0 ∙ tells attr var among ∙ value_at-class (c, e) attr class ∙ at ∙ ap (λ v. Some v) new.1
    by_either attr var value now w x among at before class (inr old) = before w x old

pub Agrees-nothing : (gives : ℕ → Option Value) (vars : ℕ) → Agrees gives (no_bindings vars)
Agrees-nothing gives vars var value is = absurd (let none : None ≡ Some value = sym (binding_of-none vars var) ∙ is in let wrong : ⊥ = cc in wrong)

-- bindings that tests have filled: each variable that they bind has a value, and those that had one have one still
pub record IsFilled (tests : List Test) (b after : Bindings) : Type 0 where
  pub long : length after ≡ length b
  pub stays : (w : ℕ) → HasValue b w → HasValue after w
  pub fills : (attr var : ℕ) → Among (Bind attr var) tests → HasValue after var

filled_more : (tests : List Test) (first : Test) (b mid after : Bindings) → length mid ≡ length b → ((w : ℕ) → HasValue b w → HasValue mid w) → ((attr var : ℕ) → Bind attr var ≡ first → HasValue mid var) → IsFilled tests mid after → IsFilled (first ∷ tests) b after
filled_more tests first b mid after long stays fills later = record {
  long = later.long ∙ long;
  stays = λ w has. later.stays w (stays w has);
  fills = λ attr var among. by_place attr var among;
}
  where
    by_place : (attr var : ℕ) → Among (Bind attr var) (first ∷ tests) → HasValue after var
    by_place attr var (inl same) = later.stays var (fills attr var same)
    by_place attr var (inr rest) = later.fills attr var rest

same_bind : (attr var at u : ℕ) → ◌≡◌ {A = Test} (Bind attr var) (Bind at u) → u ≡ var
same_bind attr var at u same = cc

no_bind_cmp : (attr var at : ℕ) (pred : Pred) (arg : Arg) → ◌≡◌ {A = Test} (Bind attr var) (Cmp at pred arg) → ⊥
no_bind_cmp attr var at pred arg same = cc

no_bind_one : (attr var at : ℕ) (among : List Value) → ◌≡◌ {A = Test} (Bind attr var) (OneOf at among) → ⊥
no_bind_one attr var at among same = cc

pub IsFilled-tests : (size vars : ℕ) (known : List ℕ) (tests : List Test) (b after : Bindings) (values : List Value) → SoundTests size vars known tests → length b ≡ vars → after_tests tests b values ≡ Some after → IsFilled tests b after
IsFilled-tests size vars known [] b after values sound long passed =
    let same : b ≡ after = cc in
    record { long = ap length (sym same); stays = λ w has. subst (λ c. HasValue c w) same has; fills = λ attr var among. absurd among }
IsFilled-tests size vars known (Bind attr var ∷ tests) b after values sound long passed =
    let gave = Gave-some (after_test (Bind attr var) b values) (λ mid. after_tests tests mid values) after passed in
    let value = GaveMapped-some (slice_get values attr) (bound b var) gave.first gave.is in
    let longer : length gave.first ≡ length b = ap length (sym value.last_is) ∙ length-set b var (Some value.first) in
    filled_more tests (Bind attr var) b gave.first after longer
    (λ w has. subst (λ c. HasValue c w) value.last_is (HasValue-stays b var w value.first has))
    (λ at u same. subst (λ w. HasValue gave.first w) (same_bind at u attr var same) (subst (λ c. HasValue c var) value.last_is (HasValue-bound b var value.first (subst (λ n. var < n) (sym long) sound.0.1))))
    (IsFilled-tests size vars (known_after_test known (Bind attr var)) tests gave.first after values sound.1 (longer ∙ long) gave.next_is)
IsFilled-tests size vars known (Cmp attr pred arg ∷ tests) b after values sound long passed =
    let gave = Gave-some (after_test (Cmp attr pred arg) b values) (λ mid. after_tests tests mid values) after passed in
    let same = (IsCompared-passed attr pred arg b values gave.first gave.is).same in
    filled_more tests (Cmp attr pred arg) b gave.first after (ap length (sym same)) (λ w has. subst (λ c. HasValue c w) same has) (λ at u wrong. absurd (no_bind_cmp at u attr pred arg wrong))
    (IsFilled-tests size vars known tests gave.first after values sound.1 (ap length (sym same) ∙ long) gave.next_is)
IsFilled-tests size vars known (OneOf attr among ∷ tests) b after values sound long passed =
    let gave = Gave-some (after_test (OneOf attr among) b values) (λ mid. after_tests tests mid values) after passed in
    let same = one_of_same attr among b values gave.first gave.is in
    filled_more tests (OneOf attr among) b gave.first after (ap length (sym same)) (λ w has. subst (λ c. HasValue c w) same has) (λ at u wrong. absurd (no_bind_one at u attr among wrong))
    (IsFilled-tests size vars known tests gave.first after values sound.1 (ap length (sym same) ∙ long) gave.next_is)
