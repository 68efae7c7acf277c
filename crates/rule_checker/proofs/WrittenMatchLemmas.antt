-- A rule that is checked matches as it is written: one condition element at a time.
use Rattle.std.proofs.Common.{◌≡◌, ℕ, ◌+◌, Bool, true, false, not, cond, ◌==◌, List, [], ◌∷◌, Option, None, Some, option_map, option_and_then, is_some, Result, length, find, slice_get, refl, sym, ap, ◌∙◌, subst, length-set}
use Rattle.std.specs.List.{AllByRecursion, list_any}
use Rattle.std.proofs.lemmas.List.{length-replicate}
use Rattle.rule_base.specs.declared.value.Value.{Value}
use Rattle.rule_base.specs.declared.element.Element.{Element}
use Rattle.rule_base.specs.declared.condition.Test.{Test}
use Rattle.rule_base.specs.declared.condition.Test.TheVariants as test
use Rattle.rule_base.specs.declared.condition.Cond.{Cond}
use Rattle.rule_base.specs.declared.program.Class.{Class}
use Rattle.rule_base.specs.declared.program.Rule.{Rule}
use Rattle.rule_base.specs.Chains.{only_if}
use Rattle.rule_base.specs.Value.{same_value}
use Rattle.rule_base.specs.Predicate.{holds}
use Rattle.rule_base.specs.Bindings.{Bindings, no_bindings, bound}
use Rattle.rule_base.specs.Memory.{Memory, HasSize, element_at}
use Rattle.rule_base.specs.Acceptance.{compared_with, after_test, after_tests, accepts}
use Rattle.rule_base.specs.Match.{after_cond, go_on, match_from, match_of}
use Rattle.rule_base.specs.ElementMatch.{after_element, matched}
use Rattle.rule_base.specs.Sound.{sizes_of}
use Rattle.ops_reader.specs.declared.form.FormCond.{FormCond}
use Rattle.rule_checker.specs.declared.left_side.LeftSide.{LeftSide}
use Rattle.rule_checker.specs.Scope.{no_variables, variable_of}
use Rattle.rule_checker.specs.LeftSide.{no_conditions}
use Rattle.rule_checker.specs.NamedBindings.{NamedValues, SayTheSame, AgreeOn}
use Rattle.rule_checker.specs.WrittenConditions.{accepts_written}
use Rattle.rule_checker.specs.WrittenRules.{WrittenRule, numbers_behind}
use Rattle.rule_checker.specs.WrittenMatch.{accepts_some_written, after_written_cond, written_match_from, written_match, MatchTheSame, AreOfClasses}
use Rattle.rule_checker.proofs.WrittenConditionLemmas.{Checks, Walked}
use Rattle.rule_checker.proofs.WrittenRuleLemmas.{HasSides}

-- tests leave the number of variables
long-if : (b : Bool) (bindings after : Bindings) → only_if b bindings ≡ Some after → length after ≡ length bindings
long-if true bindings after is = let same : bindings ≡ after = cc in ap length (sym same)
long-if false bindings after is = absurd (cc)

long-compared : (pass : Value → Bool) (o : Option Value) (bindings after : Bindings) → option_and_then (λ value. only_if (pass value) bindings) o ≡ Some after → length after ≡ length bindings
long-compared pass None bindings after is = absurd (cc)
long-compared pass (Some value) bindings after is = long-if (pass value) bindings after is

long-both : (pass : Value → Value → Bool) (o other : Option Value) (bindings after : Bindings) → option_and_then (λ value. option_and_then (λ second. only_if (pass value second) bindings) other) o ≡ Some after → length after ≡ length bindings
long-both pass None other bindings after is = absurd (cc)
long-both pass (Some value) other bindings after is = long-compared (pass value) other bindings after is

long-bound : (var : ℕ) (o : Option Value) (bindings after : Bindings) → option_map (bound bindings var) o ≡ Some after → length after ≡ length bindings
long-bound var None bindings after is = absurd (cc)
long-bound var (Some value) bindings after is =
    let same : bound bindings var value ≡ after = cc in
    ap length (sym same) ∙ length-set bindings var (Some value)

long-test : (t : Test) (bindings after : Bindings) (values : List Value) → after_test t bindings values ≡ Some after → length after ≡ length bindings
long-test (test.Bind attr var) bindings after values is = long-bound var (slice_get values attr) bindings after is
long-test (test.Cmp attr pred argument) bindings after values is = long-both (holds pred) (slice_get values attr) (compared_with argument bindings) bindings after is
long-test (test.OneOf attr among) bindings after values is = long-compared (λ value. list_any (same_value value) among) (slice_get values attr) bindings after is

long-tests : (ts : List Test) (bindings after : Bindings) (values : List Value) → after_tests ts bindings values ≡ Some after → length after ≡ length bindings
long-tests [] bindings after values is = let same : bindings ≡ after = cc in ap length (sym same)
long-tests (t ∷ ts) bindings after values is = by (after_test t bindings values) refl is (λ mid rest. long-tests ts mid after values rest)
  where
    by : (o : Option Bindings) → after_test t bindings values ≡ o → option_and_then (λ mid. after_tests ts mid values) o ≡ Some after
        → ((mid : Bindings) → after_tests ts mid values ≡ Some after → length after ≡ length mid) → length after ≡ length bindings
    by None here rest later = absurd (cc)
    by (Some mid) here rest later = later mid rest ∙ long-test t bindings mid values here

pub long-accepts : (c : Cond) (bindings after : Bindings) (e : Element) → accepts c bindings e ≡ Some after → length after ≡ length bindings
long-accepts c bindings after e is = by (c.class == e.class) is
  where
    by : (b : Bool) → option_and_then (λ given. after_tests c.tests given e.values) (only_if b bindings) ≡ Some after → length after ≡ length bindings
    by true rest = long-tests c.tests bindings after e.values rest
    by false rest = absurd (cc)

pub long-matched : (cs : List Cond) (elements : List Element) (bindings final : Bindings) → matched cs elements bindings ≡ Some final → length final ≡ length bindings
long-matched [] [] bindings final is = let same : bindings ≡ final = cc in ap length (sym same)
long-matched [] (e ∷ elements) bindings final is = absurd (cc)
long-matched (c ∷ cs) elements bindings final is = by c.negated elements (λ more after here. long-matched cs more after final here) is
  where
    by_accepted : (e : Element) (more : List Element) (o : Option Bindings) → accepts c bindings e ≡ o → ((rest : List Element) (after : Bindings) → matched cs rest after ≡ Some final → length final ≡ length after)
        → option_and_then (λ (after : List Element × Bindings). matched cs after.0 after.1) (option_map (λ after. (more, after)) o) ≡ Some final → length final ≡ length bindings
    by_accepted e more None here rest is' = absurd (cc)
    by_accepted e more (Some after) here rest is' = rest more after is' ∙ long-accepts c bindings after e here

    by : (b : Bool) (elements : List Element) → ((rest : List Element) (after : Bindings) → matched cs rest after ≡ Some final → length final ≡ length after)
        → option_and_then (λ (after : List Element × Bindings). matched cs after.0 after.1) (after_element b c elements bindings) ≡ Some final → length final ≡ length bindings
    by true elements rest is' = rest elements bindings is'
    by false [] rest is' = absurd (cc)
    by false (e ∷ more) rest is' = by_accepted e more (accepts c bindings e) refl rest is'

-- what agrees is there in both or in neither
some-agree : (number : ℕ → Option ℕ) (o : Option Bindings) (w : Option NamedValues) → AgreeOn number o w → is_some o ≡ is_some w
some-agree number None None h = refl
some-agree number None (Some named) h = absurd h
some-agree number (Some bindings) None h = absurd h
some-agree number (Some bindings) (Some named) h = refl

any-same : {A : Type 0} (P : A → Type 0) (p q : A → Bool) → ((a : A) → P a → p a ≡ q a) → (xs : List A) → AllByRecursion P xs → list_any p xs ≡ list_any q xs
any-same P p q same [] h = refl
any-same P p q same (x ∷ xs) h = let first = same x h.0 in let rest = any-same P p q same xs h.1 in rw (first, rest) refl

-- what is found holds what all hold
found-holds : {A : Type 0} (P : A → Type 0) (p : A → Bool) (xs : List A) (a : A) → AllByRecursion P xs → find p xs ≡ Some a → P a
found-holds P p [] a h is = absurd (cc)
found-holds P p (x ∷ xs) a h is = by (p x) is (found-holds P p xs a h.1)
  where
    by : (b : Bool) → cond b (Some x) (find p xs) ≡ Some a → (find p xs ≡ Some a → P a) → P a
    by true here later = let same : x ≡ a = cc in subst P same h.0
    by false here later = later here

-- the match from a condition element on, by number and by name
abbrev MatchOn : List Class → ℕ → Memory → LeftSide → List FormCond → List Cond → LeftSide → Type 0
MatchOn classes vars memory left ws cs last =
    (number : ℕ) (tags : List ℕ) (bindings : Bindings) (named : NamedValues) → length bindings ≡ vars → SayTheSame (variable_of left.scope) bindings named
    → MatchTheSame (variable_of last.scope) (match_from number cs memory tags bindings) (written_match_from number classes ws memory tags named)

-- what follows an element that was asked for, by number and by name
abbrev GoesOn : ℕ → List ℕ → (ℕ → Option ℕ) → (List ℕ × Bindings → Result Bindings ℕ) → (List ℕ × NamedValues → Result NamedValues ℕ) → Option Bindings → Option NamedValues → Type 0
GoesOn number tags numbers next then o n = MatchTheSame numbers (go_on number (option_map (λ after. (tags, after)) o) next) (go_on number (option_map (λ after. (tags, after)) n) then)

module _ (classes : List Class) (vars : ℕ) (memory : Memory) (sized : AreOfClasses classes memory) where
  match-negated : (left next last : LeftSide) (w : FormCond) (ws : List FormCond) (c : Cond) (cs : List Cond) → Checks classes vars left w c next → w.negated ≡ true → MatchOn classes vars memory next ws cs last
      → (number : ℕ) (tags : List ℕ) (bindings : Bindings) (named : NamedValues) → length bindings ≡ vars → SayTheSame (variable_of left.scope) bindings named
      → MatchTheSame (variable_of last.scope) (go_on number (after_cond true c memory tags bindings) (λ after. match_from (number + 1) cs memory after.0 after.1))
      (go_on number (after_written_cond true classes w memory tags named) (λ after. written_match_from (number + 1) classes ws memory after.0 after.1))
  match-negated left next last w ws c cs checks negated rest number tags bindings named size same =
      let some = any-same (HasSize (sizes_of classes)) (λ (e : Element). is_some (accepts c bindings e)) (λ (e : Element). is_some (accepts_written classes w named e))
      (λ e has. some-agree checks.inside (accepts c bindings e) (accepts_written classes w named e) (checks.asks.same e bindings named has size same)) memory sized in
      let front : variable_of next.scope ≡ variable_of left.scope = checks.numbers ∙ ap (λ (b : Bool). numbers_behind b (variable_of left.scope) checks.inside) negated in
      let there : SayTheSame (variable_of next.scope) bindings named = subst (λ (f : ℕ → Option ℕ). SayTheSame f bindings named) (sym front) same in
      rw some (by (accepts_some_written classes w named memory) there)
    where
      by : (b : Bool) → SayTheSame (variable_of next.scope) bindings named
          → MatchTheSame (variable_of last.scope) (go_on {A = List ℕ × Bindings} number (only_if (not b) (tags, bindings)) (λ after. match_from (number + 1) cs memory after.0 after.1))
          (go_on {A = List ℕ × NamedValues} number (only_if (not b) (tags, named)) (λ after. written_match_from (number + 1) classes ws memory after.0 after.1))
      by true there = refl
      by false there = rest (number + 1) tags bindings named size there

  match-positive : (left next last : LeftSide) (w : FormCond) (ws : List FormCond) (c : Cond) (cs : List Cond) → Checks classes vars left w c next → w.negated ≡ false → MatchOn classes vars memory next ws cs last
      → (number : ℕ) (tags : List ℕ) (bindings : Bindings) (named : NamedValues) → length bindings ≡ vars → SayTheSame (variable_of left.scope) bindings named
      → MatchTheSame (variable_of last.scope) (go_on number (after_cond false c memory tags bindings) (λ after. match_from (number + 1) cs memory after.0 after.1))
      (go_on number (after_written_cond false classes w memory tags named) (λ after. written_match_from (number + 1) classes ws memory after.0 after.1))
  match-positive left next last w ws c cs checks positive rest number [] bindings named size same = refl
  match-positive left next last w ws c cs checks positive rest number (tag ∷ tags) bindings named size same = by_element (element_at memory tag) refl
    where
      by_answer : (e : Element) (o : Option Bindings) (n : Option NamedValues) → accepts c bindings e ≡ o → AgreeOn checks.inside o n → GoesOn number tags (variable_of last.scope) (λ after. match_from (number + 1) cs memory after.0 after.1) (λ after. written_match_from (number + 1) classes ws memory after.0 after.1) o n
      by_answer e None None is h = refl
      by_answer e None (Some after) is h = absurd h
      by_answer e (Some after) None is h = absurd h
      by_answer e (Some after) (Some now) is h =
          let behind : variable_of next.scope ≡ checks.inside = checks.numbers ∙ ap (λ (b : Bool). numbers_behind b (variable_of left.scope) checks.inside) positive in
          rest (number + 1) tags after now (long-accepts c bindings after e is ∙ size) (subst (λ (f : ℕ → Option ℕ). SayTheSame f after now) (sym behind) h)

      by_element : (o : Option Element) → element_at memory tag ≡ o → GoesOn number tags (variable_of last.scope) (λ after. match_from (number + 1) cs memory after.0 after.1) (λ after. written_match_from (number + 1) classes ws memory after.0 after.1)
          (option_and_then (accepts c bindings) o) (option_and_then (accepts_written classes w named) o)
      by_element None is = refl
      by_element (Some e) is =
          let has = found-holds (HasSize (sizes_of classes)) (λ (x : Element). x.tag == tag) memory e sized is in
          by_answer e (accepts c bindings e) (accepts_written classes w named e) refl (checks.asks.same e bindings named has size same)

  match-walked : (left : LeftSide) (ws : List FormCond) (cs : List Cond) (last : LeftSide) → Walked classes vars left ws cs last → MatchOn classes vars memory left ws cs last
  match-walked left [] [] last h number [] bindings named size same = subst (λ (l : LeftSide). SayTheSame (variable_of l.scope) bindings named) h same
  match-walked left [] [] last h number (tag ∷ tags) bindings named size same = refl
  match-walked left [] (c ∷ cs) last h number tags bindings named size same = absurd h
  match-walked left (w ∷ ws) [] last h number tags bindings named size same = absurd h
  match-walked left (w ∷ ws) (c ∷ cs) last h number tags bindings named size same =
      subst (λ (b : Bool). MatchTheSame (variable_of last.scope) (go_on number (after_cond b c memory tags bindings) (λ after. match_from (number + 1) cs memory after.0 after.1))
      (go_on number (after_written_cond w.negated classes w memory tags named) (λ after. written_match_from (number + 1) classes ws memory after.0 after.1))) (sym h.1.asks.sign)
      (by w.negated refl (match-walked h.0 ws cs last h.2))
    where
      by : (b : Bool) → w.negated ≡ b → MatchOn classes vars memory h.0 ws cs last
          → MatchTheSame (variable_of last.scope) (go_on number (after_cond b c memory tags bindings) (λ after. match_from (number + 1) cs memory after.0 after.1))
          (go_on number (after_written_cond b classes w memory tags named) (λ after. written_match_from (number + 1) classes ws memory after.0 after.1))
      by true is rest = match-negated left h.0 last w ws c cs h.1 is rest number tags bindings named size same
      by false is rest = match-positive left h.0 last w ws c cs h.1 is rest number tags bindings named size same

-- to begin with no variable has a value
pub nothing-said : (vars : ℕ) → SayTheSame (variable_of no_variables) (no_bindings vars) []
nothing-said vars = record { valued = λ name. refl; same = λ name var is. absurd (cc) }

pub sides-match : (classes : List Class) (w : WrittenRule) (rule : Rule) (s : HasSides classes w rule) (memory : Memory) (tags : List ℕ) → AreOfClasses classes memory
    → MatchTheSame (variable_of s.left.scope) (match_of rule tags memory) (written_match classes w tags memory)
sides-match classes w rule s memory tags sized =
    let conds : rule.conds ≡ s.walked.conds = ap (λ (x : Rule). x.conds) s.is ∙ s.walked.more in
    let same = match-walked classes rule.vars memory sized no_conditions w.conds s.walked.conds s.left s.walked.walked 1 tags (no_bindings rule.vars) [] (length-replicate rule.vars None) (nothing-said rule.vars) in
    subst (λ (cs : List Cond). MatchTheSame (variable_of s.left.scope) (match_from 1 cs memory tags (no_bindings rule.vars)) (written_match classes w tags memory)) (sym conds) same
