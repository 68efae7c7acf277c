-- Rules on their way to a memory with one element more.
use Rattle.std.proofs.Common.{◌≡◌, inl, inr, ℕ, zero, suc, ◌+◌, ◌<◌, ◌≤◌, ◌==◌, ◌&&◌, ◌||◌, List, [], ◌∷◌, ◌++◌, Bool, true, false, cond, get_or, length, Some, refl, ap, subst, sym, ◌∙◌, arith, set, slice_get, take}
use Rattle.std.specs.List.{AllByRecursion, list_any}
use Rattle.std.proofs.lemmas.Bool.{cases_eq, eq-eqb, ne_eqb}
use Rattle.std.proofs.lemmas.List.{length-set, take_more}
use Rattle.rule_base.specs.declared.element.Element.{Element}
use Rattle.rule_base.specs.Memory.{Rises}
use Rattle.join_tests.specs.declared.joins.Join.{Join}
use Rattle.join_tests.specs.declared.joins.Joins.{Joins}
use Rattle.alpha_memory.specs.Stores.{Store}
use Rattle.match_network.specs.declared.askers.Asker.{Asker}
use Rattle.match_network.specs.Conditions.{AreFiled, AreStores, joins_of, rows_of}
use Rattle.match_network.specs.Filed.{passes_at}
use Rattle.match_network.specs.Levels.{AreWoven}
use Rattle.match_network.specs.Rules.{AreStopped, AreWovenIn, IsDue, IsKept, IsStep, IsStopped, IsWoven, RuleRows, is_asker}
use Rattle.alpha_memory.specs.Times.{times}
use Rattle.match_network.specs.Woven.{woven}
use Rattle.match_network.proofs.GivenLemmas.{get_or-is, within-is}
use Rattle.match_network.proofs.LevelLemmas.{adding_goes_on, weaving_goes_on}
use Rattle.match_network.proofs.StoreLemmas.{AreStores-cleaned}
use Rattle.alpha_memory.proofs.TimesLemmas.{times-append}

-- one rule is written
pub set_same : (rules : List RuleRows) (n : ℕ) (rule : RuleRows) → n < length rules → slice_get (set rules n rule) n ≡ Some rule
set_same [] n rule lt = absurd (omega (arith, lt))
set_same (first ∷ rules) zero rule lt = refl
set_same (first ∷ rules) (suc n) rule lt = set_same rules n rule (omega (arith, lt))

pub set_other : (rules : List RuleRows) (n m : ℕ) (rule : RuleRows) → (m ≡ n → ⊥) → slice_get (set rules n rule) m ≡ slice_get rules m
set_other [] n m rule apart = refl
set_other (first ∷ rules) zero zero rule apart = absurd (apart refl)
set_other (first ∷ rules) zero (suc m) rule apart = refl
set_other (first ∷ rules) (suc n) zero rule apart = refl
set_other (first ∷ rules) (suc n) (suc m) rule apart = set_other rules n m rule (λ same. apart (ap suc same))

-- the rule that is read
pub rule-is : (rules : List RuleRows) (n : ℕ) (rule found : RuleRows) → slice_get rules n ≡ Some rule → found ≡ get_or rules n found → rule ≡ found
rule-is rules n rule found there is = sym (is ∙ get_or-is rules n rule found there)

pub found_due : (came : List Element) (place : ℕ) (rules : List RuleRows) (asker : Asker) (due : IsDue came place rules asker) (found : RuleRows) → due.rule ≡ found → asker.condition < length found.joins.positives
found_due came place rules asker due found is = subst (λ (r : RuleRows). asker.condition < length r.joins.positives) is (within-is due.rule.joins.positives asker.condition due.join due.join_is)

pub found_passes : (came : List Element) (place : ℕ) (rules : List RuleRows) (asker : Asker) (due : IsDue came place rules asker) (found : RuleRows) → due.rule ≡ found → (join : Join) → slice_get found.joins.positives asker.condition ≡ Some join → passes_at join came place ≡ true
found_passes came place rules asker due found is join there =
    let both : Some due.join ≡ Some join = sym due.join_is ∙ ap (λ (r : RuleRows). slice_get r.joins.positives asker.condition) is ∙ there in
    let same : due.join ≡ join = cc in
    subst (λ (j : Join). passes_at j came place ≡ true) same due.passes

-- a condition element that comes once was not among those before it
any-append : (test : Asker → Bool) (xs : List Asker) (x : Asker) → list_any test (xs ++ x ∷ []) ≡ (test x || list_any test xs)
any-append test [] x = refl
any-append test (y ∷ xs) x = ap (λ b. test y || b) (any-append test xs x) ∙ turn (test y) (test x) (list_any test xs)
  where
    turn : (a b c : Bool) → (a || (b || c)) ≡ (b || (a || c))
    turn true true c = refl
    turn true false c = refl
    turn false b c = refl

any-times : (test : Asker → Bool) (xs : List Asker) → times test xs ≡ 0 → list_any test xs ≡ false
any-times test [] none = refl
any-times test (x ∷ xs) none = step (test x) none (any-times test xs)
  where
    step : (b : Bool) → cond b 1 0 + times test xs ≡ 0 → (times test xs ≡ 0 → list_any test xs ≡ false) → (b || list_any test xs) ≡ false
    step true none rest = absurd (omega (arith, none))
    step false none rest = rest (omega (arith, none))

times_take : (test : Asker → Bool) (xs : List Asker) (n : ℕ) → times test (take n xs) ≤ times test xs
times_take test xs zero = omega arith
times_take test [] (suc n) = omega arith
times_take test (x ∷ xs) (suc n) = omega (arith, times_take test xs n)

pub not_before : (due : List Asker) (i : ℕ) (asker : Asker) → i < length due → asker ≡ get_or due i asker → times (is_asker asker.rule asker.condition) due ≤ 1 → list_any (is_asker asker.rule asker.condition) (take i due) ≡ false
not_before due i asker lt is once =
    let test = is_asker asker.rule asker.condition in
    let itself : test asker ≡ true = ap (λ b. b && (asker.condition == asker.condition)) (eq-eqb asker.rule asker.rule refl) ∙ eq-eqb asker.condition asker.condition refl in
    let more : take (i + 1) due ≡ take i due ++ asker ∷ [] = take_more due i asker lt ∙ ap (λ a. take i due ++ a ∷ []) (sym is) in
    let count : times test (take (i + 1) due) ≡ times test (take i due) + (cond (test asker) 1 0 + 0) = ap (times test) more ∙ times-append test (take i due) (asker ∷ []) in
    let one : ◌≡◌ {A = ℕ} (cond (test asker) 1 0) 1 = ap (λ b. cond b 1 0) itself in
    any-times test (take i due) (omega (arith, count, one, once, times_take test due (i + 1)))

-- one weave more
pub woven_more : (came : List Element) (places : List ℕ) (place : ℕ) (alpha more : List Store) (before_due : List Asker) (asker : Asker) (old now new : List RuleRows) → Rises places → AllByRecursion (λ p. p < length came) places → place < length came → list_any (is_asker asker.rule asker.condition) before_due ≡ false → (step : IsStep came places place asker.rule alpha more now new) → ((before after : RuleRows) → slice_get now asker.rule ≡ Some before → slice_get new asker.rule ≡ Some after → (width : ℕ) → rows_of after.levels width ≡ woven (joins_of before.joins.positives) came places place asker.condition (rows_of before.levels) width) → AreWovenIn came places place alpha before_due old now → AreWovenIn came places place more (before_due ++ asker ∷ []) old new
woven_more came places place alpha more before_due asker old now new rises below lt fresh step ok held = record {
  count = ap length step.is ∙ length-set now asker.rule step.after ∙ held.count;
  each = λ number before after there got. elim (cases_eq number asker.rule) [
    | inl same ↦
        let at_old : slice_get old asker.rule ≡ Some before = ap (slice_get old) (sym same) ∙ there in
        let at_new : slice_get new asker.rule ≡ Some after = ap (slice_get new) (sym same) ∙ got in
        let written : slice_get new asker.rule ≡ Some step.after = ap (λ rs. slice_get rs asker.rule) step.is ∙ set_same now asker.rule step.after (within-is now asker.rule step.before step.before_is) in
        let both : Some step.after ≡ Some after = sym written ∙ at_new in
        let after_is : step.after ≡ after = cc in
        let was = held.each asker.rule before step.before at_old step.before_is in
        let done = was.0 in
        let w = was.2 in
        let goes = weaving_goes_on (joins_of step.before.joins.positives) came places place done asker.condition (rows_of step.before.levels) (rows_of step.after.levels) rises below lt (was.1 asker.condition ∙ fresh) (ok step.before step.after step.before_is written) w.woven in
        let is : IsWoven came places place more (asker.condition ∷ done) before step.after = record {
          joins = step.joins ∙ w.joins;
          stores = step.stores ∙ w.stores;
          filed = subst (λ (j : Joins). AreFiled j.positives came places step.after.levels) (sym step.joins) step.filed;
          served = subst (λ (j : Joins). AreStores j.positives came places step.after.stores more) (sym step.joins)
              (subst (λ (ns : List ℕ). AreStores step.before.joins.positives came places ns more) (sym step.stores)
              (AreStores-cleaned step.before.joins.positives came places step.before.stores alpha more step.cleaned w.served));
          adds = adding_goes_on came place (rows_of before.levels) (rows_of step.before.levels) (rows_of step.after.levels) w.adds step.adds;
          woven = subst (λ (j : Joins). AreWoven (joins_of j.positives) came places place (asker.condition ∷ done) (rows_of step.after.levels)) (sym step.joins) goes;
        } in (
          asker.condition ∷ done,
          (λ k. ap (λ b. (asker.condition == k) || b) (was.1 k)
              ∙ ap (λ b. (b && (asker.condition == k)) || list_any (is_asker asker.rule k) before_due) (sym (eq-eqb asker.rule asker.rule refl))
              ∙ sym (any-append (is_asker asker.rule k) before_due asker)
              ∙ ap (λ n. list_any (is_asker n k) (before_due ++ asker ∷ [])) (sym same)),
          subst (λ (r : RuleRows). IsWoven came places place more (asker.condition ∷ done) before r) after_is is,
        )
    | inr apart ↦
        let kept : slice_get now number ≡ Some after = sym (ap (λ rs. slice_get rs number) step.is ∙ set_other now asker.rule number step.after apart) ∙ got in
        let was = held.each number before after there kept in
        let w = was.2 in (
          was.0,
          (λ k. was.1 k
              ∙ ap (λ b. (b && (asker.condition == k)) || list_any (is_asker number k) before_due) (sym (ne_eqb asker.rule number (λ same. apart (sym same))))
              ∙ sym (any-append (is_asker number k) before_due asker)),
          record {
            joins = w.joins;
            stores = w.stores;
            filed = w.filed;
            served = AreStores-cleaned after.joins.positives came places after.stores alpha more step.cleaned w.served;
            adds = w.adds;
            woven = w.woven;
          },
        )
  ];
}

-- a step that stopped
pub stopped_at : (came : List Element) (places : List ℕ) (place : ℕ) (alpha more : List Store) (due : List Asker) (number : ℕ) (old now new : List RuleRows) → (step : IsStep came places place number alpha more now new) → AreWovenIn came places place alpha due old now → AreStopped came places place more old new
stopped_at came places place alpha more due number old now new step held = record {
  count = ap length step.is ∙ length-set now number step.after ∙ held.count;
  each = λ at before after there got. elim (cases_eq at number) [
    | inl same ↦
        let at_old : slice_get old number ≡ Some before = ap (slice_get old) (sym same) ∙ there in
        let at_new : slice_get new number ≡ Some after = ap (slice_get new) (sym same) ∙ got in
        let written : slice_get new number ≡ Some step.after = ap (λ rs. slice_get rs number) step.is ∙ set_same now number step.after (within-is now number step.before step.before_is) in
        let both : Some step.after ≡ Some after = sym written ∙ at_new in
        let after_is : step.after ≡ after = cc in
        let w = (held.each number before step.before at_old step.before_is).2 in
        subst (λ (r : RuleRows). IsStopped came places place more before r) after_is (record {
          joins = step.joins ∙ w.joins;
          stores = step.stores ∙ w.stores;
          filed = subst (λ (j : Joins). AreFiled j.positives came places step.after.levels) (sym step.joins) step.filed;
          served = subst (λ (j : Joins). AreStores j.positives came places step.after.stores more) (sym step.joins)
              (subst (λ (ns : List ℕ). AreStores step.before.joins.positives came places ns more) (sym step.stores)
              (AreStores-cleaned step.before.joins.positives came places step.before.stores alpha more step.cleaned w.served));
          adds = adding_goes_on came place (rows_of before.levels) (rows_of step.before.levels) (rows_of step.after.levels) w.adds step.adds;
        })
    | inr apart ↦
        let kept : slice_get now at ≡ Some after = sym (ap (λ rs. slice_get rs at) step.is ∙ set_other now number at step.after apart) ∙ got in
        let w = (held.each at before after there kept).2 in
        record { joins = w.joins; stores = w.stores; filed = w.filed; served = AreStores-cleaned after.joins.positives came places after.stores alpha more step.cleaned w.served; adds = w.adds }
  ];
}

pub stopped_none : (came : List Element) (places : List ℕ) (place : ℕ) (alpha : List Store) (due : List Asker) (old now : List RuleRows) → AreWovenIn came places place alpha due old now → AreStopped came places place alpha old now
stopped_none came places place alpha due old now held = record {
  count = held.count;
  each = λ at before after there got.
      let w = (held.each at before after there got).2 in
      record { joins = w.joins; stores = w.stores; filed = w.filed; served = w.served; adds = w.adds };
}

-- the condition elements that are due are due as the rules go on
pub due_now : (came : List Element) (places : List ℕ) (place : ℕ) (alpha : List Store) (done : List Asker) (asker : Asker) (old now : List RuleRows) → AreWovenIn came places place alpha done old now → (due : IsDue came place old asker) → (rule : RuleRows) → slice_get now asker.rule ≡ Some rule → IsDue came place now asker
due_now came places place alpha done asker old now held due rule there = record {
  rule = rule;
  rule_is = there;
  join = due.join;
  join_is = ap (λ (j : Joins). slice_get j.positives asker.condition) (held.each asker.rule due.rule rule due.rule_is there).2.joins ∙ due.join_is;
  passes = due.passes;
}

pub kept_now : (came : List Element) (places : List ℕ) (place : ℕ) (alpha : List Store) (done : List Asker) (asker : Asker) (old now : List RuleRows) → AreWovenIn came places place alpha done old now → (due : IsDue came place old asker) → (rule : RuleRows) → slice_get now asker.rule ≡ Some rule → IsKept came places alpha rule
kept_now came places place alpha done asker old now held due rule there =
    let w = (held.each asker.rule due.rule rule due.rule_is there).2 in
    record { filed = w.filed; served = w.served }
