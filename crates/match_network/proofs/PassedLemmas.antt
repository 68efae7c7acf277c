-- Which condition elements are due: those whose stores an element passes, each once.
use Rattle.std.proofs.Common.{◌≡◌, ℕ, ◌+◌, ◌<◌, ◌≤◌, ◌==◌, ◌&&◌, ◌||◌, List, [], ◌∷◌, Bool, true, false, cond, length, map, nat_lt, Option, None, Some, refl, ap, sym, ◌∙◌, arith, slice_get, option_and_then}
use Rattle.std.specs.List.{AllByRecursion, flat_map, list_any}
use Rattle.std.specs.Option.{option_map, option_map_or}
use Rattle.std.proofs.lemmas.Bool.{eq-eqb}
use Rattle.std.proofs.lemmas.Option.{slice_get-map}
use Rattle.rule_base.specs.declared.element.Element.{Element}
use Rattle.rule_base.proofs.EachLemmas.{Each-slice_get}
use Rattle.join_tests.specs.declared.joins.Join.{Join}
use Rattle.join_tests.specs.Joining.{passes}
use Rattle.alpha_memory.specs.Stores.{Serves, Store, admits, has_at, without_entries}
use Rattle.alpha_memory.specs.Times.{times}
use Rattle.alpha_memory.proofs.ServesLemmas.{Serves-within}
use Rattle.alpha_memory.proofs.TimesLemmas.{times-flat_map}
use Rattle.match_network.specs.declared.askers.Asker.{Asker}
use Rattle.match_network.specs.Row.{some_passes}
use Rattle.match_network.specs.Rules.{AreAskers, IsDue, IsRight, RuleRows, askers_at, is_asker}
use Rattle.match_network.proofs.ComeLemmas.{some_at}
use Rattle.match_network.proofs.GivenLemmas.{within-is}
use Rattle.match_network.proofs.TakeLemmas.{asks_so}

-- the store that a condition element of a rule asks
abbrev pub store_of : List (List ℕ) → ℕ → ℕ → Option ℕ
store_of stores rule condition = option_and_then (λ numbers. slice_get numbers condition) (slice_get stores rule)

-- a condition element is due as often as its store was passed
due_count : (stores : List (List ℕ)) (askers : List (List Asker)) (passed : List ℕ) (rule condition : ℕ) (asked : Option ℕ) → store_of stores rule condition ≡ asked → AreAskers stores askers → times (is_asker rule condition) (flat_map (askers_at askers) passed) ≡ option_map_or (λ store. times (λ m. store == m) passed) asked 0
due_count stores askers passed rule condition None is held =
    times-flat_map (is_asker rule condition) (λ m. false) false (askers_at askers) (λ m. held.each m rule condition ∙ ap (λ o. cond (option_map_or (λ n. n == m) o false) 1 0) is) passed
due_count stores askers passed rule condition (Some store) is held =
    times-flat_map (is_asker rule condition) (λ m. store == m) true (askers_at askers) (λ m. held.each m rule condition ∙ ap (λ o. cond (option_map_or (λ n. n == m) o false) 1 0) is) passed

-- what is known of the stores that were passed
pub record ArePassed (e : Element) (alpha : List Store) (passed : List ℕ) : Type 0 where
  pub once : (n : ℕ) → times (λ m. n == m) passed ≡ cond (has_at (admits e) alpha n) 1 0

at_most_one : (b : Bool) → cond b 1 0 ≤ 1
at_most_one true = omega arith
at_most_one false = omega arith

at_most : (e : Element) (alpha : List Store) (passed : List ℕ) (asked : Option ℕ) → ArePassed e alpha passed → option_map_or (λ store. times (λ m. store == m) passed) asked 0 ≤ 1
at_most e alpha passed None held = omega arith
at_most e alpha passed (Some store) held = omega (arith, held.once store, at_most_one (has_at (admits e) alpha store))

pub due_once : (stores : List (List ℕ)) (askers : List (List Asker)) (e : Element) (alpha : List Store) (passed : List ℕ) → AreAskers stores askers → ArePassed e alpha passed → (rule condition : ℕ) → times (is_asker rule condition) (flat_map (askers_at askers) passed) ≤ 1
due_once stores askers e alpha passed held once rule condition =
    omega (arith, due_count stores askers passed rule condition (store_of stores rule condition) refl held, at_most e alpha passed (store_of stores rule condition) once)

-- what stands in a list is counted there
counted_first : (asker : Asker) (due : List Asker) → 0 < times (is_asker asker.rule asker.condition) (asker ∷ due)
counted_first asker due =
    let itself : is_asker asker.rule asker.condition asker ≡ true = ap (λ b. b && (asker.condition == asker.condition)) (eq-eqb asker.rule asker.rule refl) ∙ eq-eqb asker.condition asker.condition refl in
    let first : times (is_asker asker.rule asker.condition) (asker ∷ due) ≡ 1 + times (is_asker asker.rule asker.condition) due = ap (λ b. cond b 1 0 + times (is_asker asker.rule asker.condition) due) itself in
    omega (arith, first)

each_counted : (P : Asker → Type 0) (due : List Asker) → ((asker : Asker) → 0 < times (is_asker asker.rule asker.condition) due → P asker) → AllByRecursion P due
each_counted P [] holds = tt
each_counted P (asker ∷ due) holds = (holds asker (counted_first asker due), each_counted P due (λ other some. holds other (omega (arith, some))))

any_counted : (test : Asker → Bool) (due : List Asker) → 0 < times test due → list_any test due ≡ true
any_counted test [] some = absurd (omega (arith, some))
any_counted test (asker ∷ due) some = step (test asker) some (any_counted test due)
  where
    step : (b : Bool) → 0 < cond b 1 0 + times test due → (0 < times test due → list_any test due ≡ true) → (b || list_any test due) ≡ true
    step true some rest = refl
    step false some rest = rest (omega (arith, some))

-- a condition element that is due is one that the element passes
has_passed : (e : Element) (alpha : List Store) (store : ℕ) → 0 < cond (has_at (admits e) alpha store) 1 0 → has_at (admits e) alpha store ≡ true
has_passed e alpha store some = step (has_at (admits e) alpha store) some
  where
    step : (b : Bool) → 0 < cond b 1 0 → b ≡ true
    step true more = refl
    step false more = absurd (omega (arith, more))

admitted : (e : Element) (alpha : List Store) (number : ℕ) (join : Join) (kept : Bool) (o : Option Store) → slice_get alpha number ≡ o → Serves (without_entries join.pattern join.key kept) alpha number → has_at (admits e) alpha number ≡ passes join.pattern e
admitted e alpha number join kept None is serves =
    let lt = Serves-within (without_entries join.pattern join.key kept) alpha number serves in
    let there = some_at alpha number lt in
    absurd (let both : None ≡ Some there.item = sym is ∙ there.is in let wrong : ⊥ = cc in wrong)
admitted e alpha number join kept (Some store) is serves =
    ap (λ o. option_map_or (admits e) o false) is ∙ ap (λ p. passes p e) (asks_so join kept alpha number store is serves).pattern

due_of : (came : List Element) (places : List ℕ) (now : List Element) (place : ℕ) (e : Element) (alpha : List Store) (rules : List RuleRows) (asker : Asker) (rule : RuleRows) (store : ℕ) → slice_get now place ≡ Some e → slice_get rules asker.rule ≡ Some rule → slice_get rule.stores asker.condition ≡ Some store → has_at (admits e) alpha store ≡ true → IsRight came places alpha rule → IsDue now place rules asker
due_of came places now place e alpha rules asker rule store there rule_is store_is has held =
    let lt : asker.condition < length rule.joins.positives = omega (arith, within-is rule.stores asker.condition store store_is, held.count) in
    let this = some_at rule.joins.positives asker.condition lt in
    let found = held.served asker.condition this.item this.is in
    let both : Some found.0 ≡ Some store = sym found.1 ∙ store_is in
    let same : found.0 ≡ store = cc in
    let passed : passes this.item.pattern e ≡ true =
    sym (admitted e alpha found.0 this.item (nat_lt 0 asker.condition) (slice_get alpha found.0) refl found.2.serves) ∙ ap (has_at (admits e) alpha) same ∙ has in
    record {
      rule = rule;
      rule_is = rule_is;
      join = this.item;
      join_is = this.is;
      passes = ap (λ o. some_passes (passes this.item.pattern) o) there ∙ passed;
    }

pub all_due : (came : List Element) (places : List ℕ) (now : List Element) (place : ℕ) (e : Element) (alpha : List Store) (rules : List RuleRows) (askers : List (List Asker)) (passed : List ℕ) → slice_get now place ≡ Some e → AllByRecursion (IsRight came places alpha) rules → AreAskers (map (λ (rule : RuleRows). rule.stores) rules) askers → ArePassed e alpha passed → AllByRecursion (IsDue now place rules) (flat_map (askers_at askers) passed)
all_due came places now place e alpha rules askers passed there held asked once =
    each_counted (IsDue now place rules) (flat_map (askers_at askers) passed) (λ asker some. by_rule asker (slice_get rules asker.rule) refl some)
  where
    stores : List (List ℕ)
    stores = map (λ (rule : RuleRows). rule.stores) rules

    store_is : (asker : Asker) → store_of stores asker.rule asker.condition ≡ option_and_then (λ numbers. slice_get numbers asker.condition) (option_map (λ (rule : RuleRows). rule.stores) (slice_get rules asker.rule))
    store_is asker = ap (λ o. option_and_then (λ numbers. slice_get numbers asker.condition) o) (slice_get-map (λ (rule : RuleRows). rule.stores) rules asker.rule)

    count : (asker : Asker) (asked : Option ℕ) → store_of stores asker.rule asker.condition ≡ asked → times (is_asker asker.rule asker.condition) (flat_map (askers_at askers) passed) ≡ option_map_or (λ store. times (λ m. store == m) passed) asked 0
    count asker asked_is is = due_count stores askers passed asker.rule asker.condition asked_is is asked

    by_store : (asker : Asker) (rule : RuleRows) (o : Option ℕ) → slice_get rules asker.rule ≡ Some rule → slice_get rule.stores asker.condition ≡ o → 0 < times (is_asker asker.rule asker.condition) (flat_map (askers_at askers) passed) → IsDue now place rules asker
    by_store asker rule None rule_is is some =
        let asks_none : store_of stores asker.rule asker.condition ≡ None = store_is asker ∙ ap (λ o. option_and_then (λ numbers. slice_get numbers asker.condition) (option_map (λ (r : RuleRows). r.stores) o)) rule_is ∙ is in
        absurd (omega (arith, count asker None asks_none, some))
    by_store asker rule (Some store) rule_is is some =
        let asks_it : store_of stores asker.rule asker.condition ≡ Some store = store_is asker ∙ ap (λ o. option_and_then (λ numbers. slice_get numbers asker.condition) (option_map (λ (r : RuleRows). r.stores) o)) rule_is ∙ is in
        due_of came places now place e alpha rules asker rule store there rule_is is
        (has_passed e alpha store (omega (arith, count asker (Some store) asks_it, once.once store, some)))
        (Each-slice_get (IsRight came places alpha) rules asker.rule rule held rule_is)

    by_rule : (asker : Asker) (o : Option RuleRows) → slice_get rules asker.rule ≡ o → 0 < times (is_asker asker.rule asker.condition) (flat_map (askers_at askers) passed) → IsDue now place rules asker
    by_rule asker None is some =
        let asks_none : store_of stores asker.rule asker.condition ≡ None = store_is asker ∙ ap (λ o. option_and_then (λ numbers. slice_get numbers asker.condition) (option_map (λ (r : RuleRows). r.stores) o)) is in
        absurd (omega (arith, count asker None asks_none, some))
    by_rule asker (Some rule) is some = by_store asker rule (slice_get rule.stores asker.condition) is refl some

-- each whose pattern it passes is due
pub asked_is_due : (stores : List (List ℕ)) (askers : List (List Asker)) (e : Element) (alpha : List Store) (passed : List ℕ) → AreAskers stores askers → ArePassed e alpha passed → (number at : ℕ) (join : Join) (kept : Bool) (store : ℕ) → store_of stores number at ≡ Some store → Serves (without_entries join.pattern join.key kept) alpha store → passes join.pattern e ≡ true → list_any (is_asker number at) (flat_map (askers_at askers) passed) ≡ true
asked_is_due stores askers e alpha passed asked once number at join kept store asks_it serves passed_it =
    let has : has_at (admits e) alpha store ≡ true = admitted e alpha store join kept (slice_get alpha store) refl serves ∙ passed_it in
    let one : ◌≡◌ {A = ℕ} (cond (has_at (admits e) alpha store) 1 0) 1 = ap (λ b. cond b 1 0) has in
    any_counted (is_asker number at) (flat_map (askers_at askers) passed)
    (omega (arith, due_count stores askers passed number at (Some store) asks_it asked, once.once store, one))

-- and each that it passes is due
pub passed_is_due : (came : List Element) (places : List ℕ) (e : Element) (alpha : List Store) (rules : List RuleRows) (askers : List (List Asker)) (passed : List ℕ) → AllByRecursion (IsRight came places alpha) rules → AreAskers (map (λ (rule : RuleRows). rule.stores) rules) askers → ArePassed e alpha passed → (number : ℕ) (rule : RuleRows) (at : ℕ) (join : Join) → slice_get rules number ≡ Some rule → slice_get rule.joins.positives at ≡ Some join → passes join.pattern e ≡ true → list_any (is_asker number at) (flat_map (askers_at askers) passed) ≡ true
passed_is_due came places e alpha rules askers passed held asked once number rule at join rule_is join_is passed_it =
    let right = Each-slice_get (IsRight came places alpha) rules number rule held rule_is in
    let found = right.served at join join_is in
    let stores = map (λ (r : RuleRows). r.stores) rules in
    let asks_it : store_of stores number at ≡ Some found.0 =
    ap (λ o. option_and_then (λ numbers. slice_get numbers at) o) (slice_get-map (λ (r : RuleRows). r.stores) rules number ∙ ap (option_map (λ (r : RuleRows). r.stores)) rule_is) ∙ found.1 in
    asked_is_due stores askers e alpha passed asked once number at join (nat_lt 0 at) found.0 asks_it found.2.serves passed_it
