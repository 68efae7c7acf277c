-- An element comes: the rules begin on their way, and end it.
use Rattle.std.proofs.Common.{◌≡◌, inr, ℕ, ◌<◌, ◌==◌, ◌&&◌, List, [], ◌∷◌, ◌++◌, Bool, true, false, cond, length, map, nat_lt, Option, None, Some, refl, ap, subst, sym, ◌∙◌, slice_get}
use Rattle.std.specs.List.{AllByRecursion, list_any}
use Rattle.std.specs.Option.{option_map, option_map_or}
use Rattle.std.proofs.lemmas.Bool.{and_parts}
use Rattle.std.proofs.lemmas.List.{append-nil}
use Rattle.rule_base.specs.declared.element.Element.{Element}
use Rattle.rule_base.proofs.EachLemmas.{Each-slice_get}
use Rattle.join_tests.specs.declared.joins.Join.{Join}
use Rattle.join_tests.specs.declared.joins.Joins.{Joins}
use Rattle.join_tests.specs.Hashing.{hash_of}
use Rattle.join_tests.specs.Joining.{joins, key_of_element, passes, same_key, tests_hold}
use Rattle.alpha_memory.specs.Stores.{Serves, Store, emptied, filed, attributes_of, hash_at, without_entries}
use Rattle.alpha_memory.proofs.EntryLemmas.{hash_at-key}
use Rattle.alpha_memory.proofs.ServesLemmas.{Serves-filed_or_not}
use Rattle.match_network.specs.Conditions.{IsServed, entries_at, joins_of, rows_of}
use Rattle.match_network.specs.Filed.{IsStore, store_entries}
use Rattle.match_network.specs.Levels.{OnlyAdds}
use Rattle.match_network.specs.Row.{some_passes}
use Rattle.match_network.specs.Rules.{AreWovenIn, IsRight, IsWoven, RuleRows}
use Rattle.match_network.proofs.FilingLemmas.{levels_meet_arrivals, stores_meet_arrivals}
use Rattle.match_network.proofs.LevelLemmas.{weaving_begins, weaving_ends}

-- the element that came last
pub last_came : (came : List Element) (e : Element) → slice_get (came ++ e ∷ []) (length came) ≡ Some e
last_came [] e = refl
last_came (first ∷ came) e = last_came came e

-- what a store that serves a join has asked of elements, once it is known
pub record Asks (join : Join) (kept : Bool) (store : Store) : Type 0 where
  pub pattern : store.pattern ≡ join.pattern
  pub attributes : store.attributes ≡ attributes_of join.key
  pub is_kept : store.is_kept ≡ kept

pub asks_so : (join : Join) (kept : Bool) (stores : List Store) (number : ℕ) (store : Store) → slice_get stores number ≡ Some store → Serves (without_entries join.pattern join.key kept) stores number → Asks join kept store
asks_so join kept stores number store there serves =
    let both : Some (emptied store) ≡ Some (emptied (without_entries join.pattern join.key kept)) = sym (ap (option_map emptied) there) ∙ serves in
    let same : emptied store ≡ emptied (without_entries join.pattern join.key kept) = cc in
    record {
      pattern = ap (λ (s : Store). s.pattern) same;
      attributes = ap (λ (s : Store). s.attributes) same;
      is_kept = ap (λ (s : Store). s.is_kept) same;
    }

-- filing in one store
filed_one : (join : Join) (came : List Element) (e : Element) (store : Store) → Asks join true store → (filed (length came) e store).entries ≡ store.entries ++ store_entries join (came ++ e ∷ []) (length came ∷ [])
filed_one join came e store asks =
    ap (λ p. (cond (passes p e) (cond store.is_kept (record store { entries = store.entries ++ (hash_at store.attributes e, length came) ∷ [] }) store) store).entries) asks.pattern
    ∙ ap (λ k. (cond (passes join.pattern e) (cond k (record store { entries = store.entries ++ (hash_at store.attributes e, length came) ∷ [] }) store) store).entries) asks.is_kept
    ∙ ap (λ ns. (cond (passes join.pattern e) (record store { entries = store.entries ++ (hash_at ns e, length came) ∷ [] }) store).entries) asks.attributes
    ∙ ap (λ h. (cond (passes join.pattern e) (record store { entries = store.entries ++ (h, length came) ∷ [] }) store).entries) (hash_at-key join.key e)
    ∙ step (passes join.pattern e)
    ∙ ap (λ o. store.entries ++ map (λ p. (option_map_or (λ x. hash_of (key_of_element join.key x)) (slice_get (came ++ e ∷ []) p) 0, p)) (cond (some_passes (passes join.pattern) o) (length came ∷ []) [])) (sym (last_came came e))
  where
    step : (b : Bool) → (cond b (record store { entries = store.entries ++ (hash_of (key_of_element join.key e), length came) ∷ [] }) store).entries ≡ store.entries ++ map (λ p. (option_map_or (λ x. hash_of (key_of_element join.key x)) (slice_get (came ++ e ∷ []) p) 0, p)) (cond b (length came ∷ []) [])
    step true = ap (λ o. store.entries ++ (option_map_or (λ x. hash_of (key_of_element join.key x)) o 0, length came) ∷ []) (sym (last_came came e))
    step false = sym (append-nil store.entries)

-- a store that has taken the element in serves the memory with it
pub IsServed-filed : (join : Join) (kept : Bool) (came : List Element) (places : List ℕ) (e : Element) (old new : List Store) (number : ℕ) → AllByRecursion (λ p. p < length came) places → ((n : ℕ) → slice_get new n ≡ option_map (filed (length came) e) (slice_get old n)) → IsServed join kept came places old number → IsServed join kept (came ++ e ∷ []) (places ++ length came ∷ []) new number
IsServed-filed join kept came places e old new number below is held = record {
  serves = Serves-filed_or_not (length came) e (without_entries join.pattern join.key kept) old new number (λ n. inr (is n)) held.serves;
  has = λ kept_is. at (slice_get old number) refl kept_is;
}
  where
    at : (o : Option Store) → slice_get old number ≡ o → kept ≡ true → IsStore join (came ++ e ∷ []) (places ++ length came ∷ []) (entries_at new number)
    at None none kept_is = absurd (let both : None ≡ Some (emptied (without_entries join.pattern join.key kept)) = sym (ap (option_map emptied) none) ∙ held.serves in let wrong : ⊥ = cc in wrong)
    at (Some store) there kept_is =
        let asks = subst (λ k. Asks join k store) kept_is (asks_so join kept old number store there held.serves) in
        let was : IsStore join came places store.entries = subst (IsStore join came places) (ap (λ o. option_map_or (λ (s : Store). s.entries) o []) there) (held.has kept_is) in
        let now : entries_at new number ≡ (filed (length came) e store).entries = ap (λ o. option_map_or (λ (s : Store). s.entries) o []) (is number ∙ ap (option_map (filed (length came) e)) there) in
        stores_meet_arrivals join came places e store.entries (entries_at new number) below (now ∙ filed_one join came e store asks) was

-- with the element filed, and nothing woven in yet, a rule begins on its way
pub nothing_added : (came : List Element) (place : ℕ) (levels : ℕ → List (List ℕ)) → OnlyAdds came place levels levels
nothing_added came place levels width = ([], sym (append-nil (levels width)), tt)

pub rule_begins : (came : List Element) (places : List ℕ) (e : Element) (old new : List Store) (rule : RuleRows) → AllByRecursion (λ p. p < length came) places → ((n : ℕ) → slice_get new n ≡ option_map (filed (length came) e) (slice_get old n)) → IsRight came places old rule → IsWoven (came ++ e ∷ []) (places ++ length came ∷ []) (length came) new [] rule rule
rule_begins came places e old new rule below is held = record {
  joins = refl;
  stores = refl;
  filed = levels_meet_arrivals rule.joins.positives came places e rule.levels below held.filed;
  served = λ at join there.
      let found = held.served at join there in
      (found.0, found.1, IsServed-filed join (nat_lt 0 at) came places e old new found.0 below is found.2);
  adds = nothing_added (came ++ e ∷ []) (length came) (rows_of rule.levels);
  woven = weaving_begins (joins_of rule.joins.positives) came places e (rows_of rule.levels) below held.right;
}

pub rules_begin : (came : List Element) (places : List ℕ) (e : Element) (old new : List Store) (rules : List RuleRows) → AllByRecursion (λ p. p < length came) places → ((n : ℕ) → slice_get new n ≡ option_map (filed (length came) e) (slice_get old n)) → AllByRecursion (IsRight came places old) rules → AreWovenIn (came ++ e ∷ []) (places ++ length came ∷ []) (length came) new [] rules rules
rules_begin came places e old new rules below is held = record {
  count = refl;
  each = λ number before after there got.
      let both : Some before ≡ Some after = sym there ∙ got in
      let same : before ≡ after = cc in
      let begun = rule_begins came places e old new before below is (Each-slice_get (IsRight came places old) rules number before held there) in
      ([], (λ at. refl), subst (λ (r : RuleRows). IsWoven (came ++ e ∷ []) (places ++ length came ∷ []) (length came) new [] before r) same begun);
}

-- once a rule's condition elements that the element passes are done, it is right
pub rule_ends : (came : List Element) (places : List ℕ) (place : ℕ) (e : Element) (alpha : List Store) (done : List ℕ) (old now : RuleRows) → slice_get came place ≡ Some e → length old.stores ≡ length old.joins.positives → ((at : ℕ) (join : Join) → slice_get old.joins.positives at ≡ Some join → passes join.pattern e ≡ true → list_any (λ other. other == at) done ≡ true) → IsWoven came places place alpha done old now → IsRight came places alpha now
rule_ends came places place e alpha done old now there count all held = record {
  count = ap length held.stores ∙ count ∙ ap (λ (j : Joins). length j.positives) (sym held.joins);
  filed = held.filed;
  served = held.served;
  right = weaving_ends (joins_of now.joins.positives) came places place e done (rows_of now.levels) there
      (λ at before joined. by (slice_get now.joins.positives at) at before refl joined) held.woven;
}
  where
    by : (o : Option Join) (at : ℕ) (before : List Element) → slice_get now.joins.positives at ≡ o → joins_of now.joins.positives at before e ≡ true → list_any (λ other. other == at) done ≡ true
    by None at before is joined = absurd (let both : false ≡ true = sym (ap (λ o. option_map_or (λ join. joins join before e) o false) is) ∙ joined in let wrong : ⊥ = cc in wrong)
    by (Some join) at before is joined =
        let it : joins join before e ≡ true = sym (ap (λ o. option_map_or (λ j. joins j before e) o false) is) ∙ joined in
        let parts = and_parts (passes join.pattern e && same_key join.key before e) (tests_hold join.tests before e) it in
        all at join (ap (λ (j : Joins). slice_get j.positives at) (sym held.joins) ∙ is) (and_parts (passes join.pattern e) (same_key join.key before e) parts.0).0
