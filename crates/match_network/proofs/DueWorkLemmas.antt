-- What is tried at all condition elements that are due is no more than the partial matches of all rules give work.
use Rattle.std.proofs.Common.{◌≡◌, ℕ, ◌+◌, ◌-◌, ◌<◌, ◌≤◌, ◌==◌, ◌&&◌, List, [], ◌∷◌, ◌++◌, Bool, true, false, cond, length, zero, suc, Some, refl, ap, subst, sym, ◌∙◌, arith, inl, inr, slice_get}
use Rattle.std.specs.List.{AllByRecursion, filter, sum_by}
use Rattle.std.specs.Option.{option_map_or}
use Rattle.std.proofs.lemmas.Bool.{and_parts, cases_eq, cases_lt, eq-eqb, eqb-true}
use Rattle.rule_base.specs.declared.element.Element.{Element}
use Rattle.rule_base.specs.Numbers.{has_number}
use Rattle.rule_base.proofs.EachLemmas.{Each-weaker}
use Rattle.join_tests.specs.declared.joins.Join.{Join}
use Rattle.join_tests.specs.declared.joins.Joins.{Joins}
use Rattle.alpha_memory.specs.Stores.{Store}
use Rattle.alpha_memory.specs.Times.{times}
use Rattle.alpha_memory.proofs.TimesLemmas.{times-append}
use Rattle.match_network.specs.declared.askers.Asker.{Asker}
use Rattle.match_network.specs.Arrivals.{Arrivals}
use Rattle.match_network.specs.Conditions.{joins_of, rows_of}
use Rattle.match_network.specs.Filed.{passes_at}
use Rattle.match_network.specs.JoinWork.{join_work, join_work_of}
use Rattle.match_network.specs.Levels.{HaveCome}
use Rattle.match_network.specs.Network.{IsBefore, other_than}
use Rattle.match_network.specs.Rules.{AreAllDue, AreWovenIn, IsDue, IsRight, RuleRows, is_asker}
use Rattle.match_network.specs.Tried.{due_tried, rule_tried, woven_tried}
use Rattle.match_network.proofs.ComeLemmas.{some_at}
use Rattle.match_network.proofs.GivenLemmas.{within-is}
use Rattle.match_network.proofs.LevelLemmas.{weaving_begins}
use Rattle.match_network.proofs.SetChangeLemmas.{set_due, set_once}
use Rattle.match_network.proofs.StopLemmas.{without_last}
use Rattle.match_network.proofs.SumLemmas.{sum-total, total, total-append, total-below, total-each, total-each_le, up_to}
use Rattle.match_network.proofs.WorkLemmas.{IsComing, all_widths, passes_here, rule_below, tried-more}

-- a condition element by its numbers
abbrev asker_of : ℕ → ℕ → Asker
asker_of rule condition = record { rule = rule; condition = condition }

abbrev same_asker : Asker → Asker → Bool
same_asker a b = is_asker a.rule a.condition b

same_exact : (a b : Asker) → same_asker a b ≡ true → a ≡ b
same_exact a b same =
    let parts = and_parts (b.rule == a.rule) (b.condition == a.condition) same in
    ap (λ n. asker_of n a.condition) (sym (eqb-true b.rule a.rule parts.0)) ∙ ap (asker_of b.rule) (sym (eqb-true b.condition a.condition parts.1))

itself : (rule condition : ℕ) → is_asker rule condition (asker_of rule condition) ≡ true
itself rule condition = ap (λ b. b && (condition == condition)) (eq-eqb rule rule refl) ∙ eq-eqb condition condition refl

-- all condition elements of a rule, and of rules
abbrev conditions_to : ℕ → ℕ → List Asker
conditions_to rule zero = []
conditions_to rule (suc n) = conditions_to rule n ++ asker_of rule n ∷ []

abbrev askers_from : ℕ → List RuleRows → List Asker
askers_from number [] = []
askers_from number (rule ∷ rules) = conditions_to number (length rule.joins.positives) ++ askers_from (number + 1) rules

in_conditions : (rule condition n : ℕ) → condition < n → 0 < times (is_asker rule condition) (conditions_to rule n)
in_conditions rule condition zero lt = absurd (omega (arith, lt))
in_conditions rule condition (suc n) lt = elim (cases_eq condition n) [
  | inl same ↦
      let here : is_asker rule condition (asker_of rule n) ≡ true = ap (λ k. is_asker rule condition (asker_of rule k)) (sym same) ∙ itself rule condition in
      let one : ◌≡◌ {A = ℕ} (cond (is_asker rule condition (asker_of rule n)) 1 0) 1 = ap (λ b. cond b 1 0) here in
      omega (arith, times-append (is_asker rule condition) (conditions_to rule n) (asker_of rule n ∷ []), one)
  | inr apart ↦
      omega (arith, times-append (is_asker rule condition) (conditions_to rule n) (asker_of rule n ∷ []), in_conditions rule condition n (omega (arith, lt, apart)))
]

among_all : (number k condition : ℕ) (rules : List RuleRows) (rule : RuleRows) → slice_get rules k ≡ Some rule → condition < length rule.joins.positives → 0 < times (is_asker (number + k) condition) (askers_from number rules)
among_all number k condition [] rule there lt = absurd (let wrong : ⊥ = cc in wrong)
among_all number zero condition (first ∷ rules) rule there lt =
    let same : first ≡ rule = cc in
    let here : condition < length first.joins.positives = subst (λ (r : RuleRows). condition < length r.joins.positives) (sym same) lt in
    let found : 0 < times (is_asker (number + 0) condition) (conditions_to number (length first.joins.positives)) =
    subst (λ n. 0 < times (is_asker n condition) (conditions_to number (length first.joins.positives))) (let it : number ≡ number + 0 = omega arith in it) (in_conditions number condition (length first.joins.positives) here) in
    omega (arith, times-append (is_asker (number + 0) condition) (conditions_to number (length first.joins.positives)) (askers_from (number + 1) rules), found)
among_all number (suc k) condition (first ∷ rules) rule there lt =
    let found : 0 < times (is_asker (number + suc k) condition) (askers_from (number + 1) rules) =
    subst (λ n. 0 < times (is_asker n condition) (askers_from (number + 1) rules)) (let it : number + 1 + k ≡ number + suc k = omega arith in it) (among_all (number + 1) k condition rules rule there lt) in
    omega (arith, times-append (is_asker (number + suc k) condition) (conditions_to number (length first.joins.positives)) (askers_from (number + 1) rules), found)

-- what is tried there, where the element passes
abbrev rule_cost : List Element → List ℕ → ℕ → RuleRows → ℕ → ℕ
rule_cost came places place rule at = cond (passes_here rule.joins.positives came place at) (rule_tried rule came places place at) 0

abbrev cost : List Element → List ℕ → ℕ → List RuleRows → Asker → ℕ
cost came places place rules asker = option_map_or (λ (rule : RuleRows). rule_cost came places place rule asker.condition) (slice_get rules asker.rule) 0

conditions_total : (came : List Element) (places : List ℕ) (place : ℕ) (rules : List RuleRows) (number : ℕ) (rule : RuleRows) → slice_get rules number ≡ Some rule → (n : ℕ) → total (cost came places place rules) (conditions_to number n) ≡ up_to n (rule_cost came places place rule)
conditions_total came places place rules number rule there zero = refl
conditions_total came places place rules number rule there (suc n) =
    let last : cost came places place rules (asker_of number n) ≡ rule_cost came places place rule n = ap (λ o. option_map_or (λ (r : RuleRows). rule_cost came places place r n) o 0) there in
    omega (arith, total-append (cost came places place rules) (conditions_to number n) (asker_of number n ∷ []), last, conditions_total came places place rules number rule there n)

askers_total : (came : List Element) (places : List ℕ) (place : ℕ) (all : List RuleRows) (number : ℕ) (rules : List RuleRows) → ((k : ℕ) → slice_get all (number + k) ≡ slice_get rules k) → total (cost came places place all) (askers_from number rules) ≡ total (λ (rule : RuleRows). up_to (length rule.joins.positives) (rule_cost came places place rule)) rules
askers_total came places place all number [] there = refl
askers_total came places place all number (rule ∷ rules) there =
    let here : slice_get all number ≡ Some rule = ap (slice_get all) (let it : number ≡ number + 0 = omega arith in it) ∙ there 0 in
    let rest = askers_total came places place all (number + 1) rules (λ k. ap (slice_get all) (let it : number + 1 + k ≡ number + suc k = omega arith in it) ∙ there (suc k)) in
    omega (
      arith,
      total-append (cost came places place all) (conditions_to number (length rule.joins.positives)) (askers_from (number + 1) rules),
      conditions_total came places place all number rule here (length rule.joins.positives),
      rest,
    )

-- the condition elements that are due are among all, each once
counted_is : (P : Asker → Type 0) (asker : Asker) (due : List Asker) → AllByRecursion P due → 0 < times (same_asker asker) due → P asker
counted_is P asker [] each some = absurd (omega (arith, some))
counted_is P asker (first ∷ due) each some = step (same_asker asker first) refl some (counted_is P asker due each.1)
  where
    step : (b : Bool) → same_asker asker first ≡ b → 0 < cond b 1 0 + times (same_asker asker) due → (0 < times (same_asker asker) due → P asker) → P asker
    step true is more rest = subst P (sym (same_exact asker first is)) each.0
    step false is more rest = rest (omega (arith, more))

due_below : (came : List Element) (places : List ℕ) (place : ℕ) (rules : List RuleRows) (due : List Asker) → AllByRecursion (IsDue came place rules) due → ((rule condition : ℕ) → times (is_asker rule condition) due ≤ 1) → total (due_tried rules came places place) due ≤ total (λ (rule : RuleRows). up_to (length rule.joins.positives) (rule_cost came places place rule)) rules
due_below came places place rules due each once =
    omega (
      arith,
      total-each (due_tried rules came places place) (cost came places place rules) due (Each-weaker (IsDue came place rules) (λ asker. due_tried rules came places place asker ≡ cost came places place rules asker) passed due each),
      total-below same_asker same_exact (λ asker. itself asker.rule asker.condition) due (askers_from 0 rules) among (cost came places place rules),
      askers_total came places place rules 0 rules (λ k. ap (slice_get rules) (let it : 0 + k ≡ k = omega arith in it)),
    )
  where
    passed : (asker : Asker) → IsDue came place rules asker → due_tried rules came places place asker ≡ cost came places place rules asker
    passed asker is =
        let passes : passes_here is.rule.joins.positives came place asker.condition ≡ true = ap (λ o. option_map_or (λ (join : Join). passes_at join came place) o false) is.join_is ∙ is.passes in
        ap (λ o. option_map_or (λ (r : RuleRows). rule_tried r came places place asker.condition) o 0) is.rule_is
        ∙ sym (ap (λ b. cond b (rule_tried is.rule came places place asker.condition) 0) passes)
        ∙ sym (ap (λ o. option_map_or (λ (r : RuleRows). rule_cost came places place r asker.condition) o 0) is.rule_is)

    among : (asker : Asker) → times (same_asker asker) due ≤ times (same_asker asker) (askers_from 0 rules)
    among asker = elim (cases_lt 0 (times (same_asker asker) due)) [
      | inl some ↦
          let is = counted_is (IsDue came place rules) asker due each some in
          let there : 0 < times (is_asker asker.rule asker.condition) (askers_from 0 rules) =
          subst (λ n. 0 < times (is_asker n asker.condition) (askers_from 0 rules)) (let it : 0 + asker.rule ≡ asker.rule = omega arith in it)
          (among_all 0 asker.rule asker.condition rules is.rule is.rule_is (within-is is.rule.joins.positives asker.condition is.join is.join_is)) in
          omega (arith, there, once asker.rule asker.condition)
      | inr none ↦ omega (arith, none)
    ]

-- a rule that is right gives no more
rule_work : (came : List Element) (places : List ℕ) (e : Element) (alpha : List Store) (rule : RuleRows) → AllByRecursion (λ p. p < length came) places → IsRight came places alpha rule →
    up_to (length rule.joins.positives) (rule_cost (came ++ e ∷ []) (places ++ length came ∷ []) (length came) rule) ≤ join_work rule.joins.positives (came ++ e ∷ []) places (length came)
rule_work came places e alpha rule below held =
    let coming : IsComing rule.joins.positives (came ++ e ∷ []) places (length came) (rows_of rule.levels) = record {
      woven = weaving_begins (joins_of rule.joins.positives) came places e (rows_of rule.levels) below held.right;
      widths = all_widths rule.joins.positives came places rule.levels held.filed;
    } in
    rule_below rule.joins.positives (came ++ e ∷ []) places (length came) (rows_of rule.levels) coming

all_work : (came : List Element) (places : List ℕ) (e : Element) (alpha : List Store) (rules : List RuleRows) (due : List Asker) → AllByRecursion (λ p. p < length came) places → AllByRecursion (IsRight came places alpha) rules → AllByRecursion (IsDue (came ++ e ∷ []) (length came) rules) due → ((rule condition : ℕ) → times (is_asker rule condition) due ≤ 1) →
    sum_by (due_tried rules (came ++ e ∷ []) (places ++ length came ∷ []) (length came)) due ≤ join_work_of rules (came ++ e ∷ []) places (length came)
all_work came places e alpha rules due below held each once =
    let now = came ++ e ∷ [] in
    let place = length came in
    let most : RuleRows → ℕ = λ (rule : RuleRows). join_work rule.joins.positives now places place in
    let tried : RuleRows → ℕ = λ (rule : RuleRows). up_to (length rule.joins.positives) (rule_cost now (places ++ place ∷ []) place rule) in
    omega (
      arith,
      sum-total (due_tried rules now (places ++ place ∷ []) place) due,
      due_below now (places ++ place ∷ []) place rules due each once,
      total-each_le tried most rules (Each-weaker (IsRight came places alpha) (λ rule. tried rule ≤ most rule) (λ rule right. rule_work came places e alpha rule below right) rules held),
      sum-total most rules,
    )

pub set_work : (now : Arrivals) (e : Element) (place : ℕ) (alpha : List Store) (rules : List RuleRows) (askers asks : List (List Asker)) (due : List Asker) → IsBefore now e place alpha rules askers asks → AreAllDue e alpha askers due → sum_by (due_tried rules now.came now.places place) due ≤ join_work_of rules now.came (filter (other_than place) now.places) place
set_work now e place alpha rules askers asks due b d =
    let came = b.before.came in
    let places = b.before.places in
    let each : AllByRecursion (IsDue (came ++ e ∷ []) (length came) rules) due =
    subst (λ p. AllByRecursion (IsDue (came ++ e ∷ []) p rules) due) b.place_is
    (subst (λ (a : Arrivals). AllByRecursion (IsDue a.came place rules) due) b.is (set_due now e place alpha rules askers asks due b d)) in
    subst (λ (a : Arrivals). sum_by (due_tried rules a.came a.places place) due ≤ join_work_of rules a.came (filter (other_than place) a.places) place) (sym b.is)
    (subst (λ p. sum_by (due_tried rules (came ++ e ∷ []) (places ++ length came ∷ []) p) due ≤ join_work_of rules (came ++ e ∷ []) (filter (other_than p) (places ++ length came ∷ [])) p) (sym b.place_is)
    (subst (λ ps. sum_by (due_tried rules (came ++ e ∷ []) (places ++ length came ∷ []) (length came)) due ≤ join_work_of rules (came ++ e ∷ []) ps (length came)) (sym (without_last places (length came) b.below))
    (all_work came places e alpha rules due b.below b.held.right each (set_once now e place alpha rules askers asks due b d))))

-- and at the network, where the places are those before
pub network_work : (before now : Arrivals) (e : Element) (place : ℕ) (rules : List RuleRows) → AllByRecursion (λ p. p < length before.came) before.places → now.came ≡ before.came ++ e ∷ [] → now.places ≡ before.places ++ length before.came ∷ [] → place ≡ length before.came → join_work_of rules now.came (filter (other_than place) now.places) place ≡ join_work_of rules (before.came ++ e ∷ []) before.places (length before.came)
network_work before now e place rules below came_is places_is place_is =
    ap (λ came. join_work_of rules came (filter (other_than place) now.places) place) came_is
    ∙ ap (λ ps. join_work_of rules (before.came ++ e ∷ []) (filter (other_than place) ps) place) places_is
    ∙ ap (λ p. join_work_of rules (before.came ++ e ∷ []) (filter (other_than p) (before.places ++ length before.came ∷ [])) p) place_is
    ∙ ap (λ ps. join_work_of rules (before.came ++ e ∷ []) ps (length before.came)) (without_last before.places (length before.came) below)

-- rules on their way are tried as they were
pub due_same : (came : List Element) (places : List ℕ) (place : ℕ) (alpha : List Store) (done : List Asker) (asker : Asker) (old now : List RuleRows) → AreWovenIn came places place alpha done old now → IsDue came place old asker → due_tried now came places place asker ≡ due_tried old came places place asker
due_same came places place alpha done asker old now held due =
    let lt : asker.rule < length now = omega (arith, within-is old asker.rule due.rule due.rule_is, held.count) in
    let this = some_at now asker.rule lt in
    let w = (held.each asker.rule due.rule this.item due.rule_is this.is).2 in
    let at = asker.condition in
    let more = w.adds at in
    ap (λ o. option_map_or (λ (r : RuleRows). rule_tried r came places place at) o 0) this.is
    ∙ ap (λ (js : Joins). woven_tried js.positives came places place at (rows_of this.item.levels at) (length js.positives - (at + 1))) w.joins
    ∙ ap (λ rows. woven_tried due.rule.joins.positives came places place at rows (length due.rule.joins.positives - (at + 1))) more.1
    ∙ tried-more due.rule.joins.positives came places place at (rows_of due.rule.levels at) more.0 (Each-weaker (λ row. HaveCome came row × (has_number row place ≡ true)) (λ row. has_number row place ≡ true) (λ row both. both.1) more.0 more.2) (length due.rule.joins.positives - (at + 1))
    ∙ sym (ap (λ o. option_map_or (λ (r : RuleRows). rule_tried r came places place at) o 0) due.rule_is)
