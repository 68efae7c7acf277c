-- An element was to come, and memory ran out: the rules are right for the memory without it.
use Rattle.std.proofs.Common.{◌≡◌, inl, inr, ℕ, zero, suc, ◌<◌, List, [], ◌∷◌, ◌++◌, Bool, true, not, cond, filter, length, map, nat_lt, Option, Some, refl, ap, subst, sym, ◌∙◌, arith, slice_get, length-append}
use Rattle.std.specs.List.{AllByRecursion}
use Rattle.std.specs.Option.{option_map, option_map_or}
use Rattle.std.proofs.lemmas.Bool.{eq-eqb, ne_eqb}
use Rattle.std.proofs.lemmas.List.{append-nil}
use Rattle.std.proofs.lemmas.Option.{slice_get-map}
use Rattle.std.proofs.lemmas.List.Elements.{filter-append}
use Rattle.rule_base.specs.declared.element.Element.{Element}
use Rattle.rule_base.proofs.EachLemmas.{Each-slice_get, Each-weaker}
use Rattle.working_memory.proofs.PlaceLemmas.{filter-all}
use Rattle.join_tests.specs.declared.joins.Join.{Join}
use Rattle.join_tests.specs.declared.joins.Joins.{Joins}
use Rattle.alpha_memory.specs.Stores.{AreFiledOrNot, Store, filed, without_entries}
use Rattle.alpha_memory.proofs.ServesLemmas.{Serves-filed_or_not}
use Rattle.match_network.specs.Conditions.{AreFiled, IsServed, entries_at, joins_of, rows_of}
use Rattle.match_network.specs.Filed.{IsStore}
use Rattle.match_network.specs.Levels.{AreLevels}
use Rattle.match_network.specs.Network.{other_than}
use Rattle.match_network.specs.Rules.{AreStopped, IsRight, IsStopped, RuleRows}
use Rattle.match_network.proofs.ComeLemmas.{some_at}
use Rattle.match_network.proofs.FilingLemmas.{levels_meet_arrivals, levels_meet_removals, store-come, stores_meet_removals}
use Rattle.match_network.proofs.GivenLemmas.{within-is}
use Rattle.match_network.proofs.LevelLemmas.{weaving_may_stop}
use Rattle.match_network.proofs.TakeLemmas.{IsServed-filed, nothing_added}

-- the places without the last one
pub without_last : (places : List ℕ) (place : ℕ) → AllByRecursion (λ p. p < place) places → filter (other_than place) (places ++ place ∷ []) ≡ places
without_last places place below =
    filter-append (other_than place) places (place ∷ [])
    ∙ ap (λ ps. ps ++ filter (other_than place) (place ∷ [])) (filter-all (other_than place) places (Each-weaker (λ p. p < place) (λ p. other_than place p ≡ true) (λ p lt. ap not (ne_eqb p place (λ same. omega (arith, same, lt)))) places below))
    ∙ ap (λ b. places ++ cond (not b) (place ∷ []) []) (eq-eqb place place refl)
    ∙ append-nil places

-- a store that has taken the element in, or not

pub IsServed-either : (join : Join) (kept : Bool) (came : List Element) (places : List ℕ) (e : Element) (old new : List Store) (number : ℕ) → AllByRecursion (λ p. p < length came) places → AreFiledOrNot (length came) e old new → IsServed join kept came places old number → IsServed join kept (came ++ e ∷ []) places new number
IsServed-either join kept came places e old new number below either held = record {
  serves = Serves-filed_or_not (length came) e (without_entries join.pattern join.key kept) old new number either held.serves;
  has = λ kept_is. elim (either number) [
    | inl same ↦
        let was = held.has kept_is in
        subst (λ (o : Option Store). IsStore join (came ++ e ∷ []) places (option_map_or (λ (s : Store). s.entries) o [])) (sym same)
        (record {
          living = was.living ∙ sym (store-come join came e places below);
          have_come = Each-weaker (λ (x : ℕ × ℕ). x.1 < length came) (λ (x : ℕ × ℕ). x.1 < length (came ++ e ∷ [])) (λ x lt. omega (arith, lt, length-append came (e ∷ []))) (entries_at old number) was.have_come;
        })
    | inr one ↦ filed_here kept_is one
  ];
}
  where
    all : List Store
    all = map (filed (length came) e) old

    filed_here : kept ≡ true → slice_get new number ≡ option_map (filed (length came) e) (slice_get old number) → IsStore join (came ++ e ∷ []) places (entries_at new number)
    filed_here kept_is one =
        let now = IsServed-filed join kept came places e old all number below (λ n. slice_get-map (filed (length came) e) old n) held in
        let there : IsStore join (came ++ e ∷ []) (places ++ length came ∷ []) (entries_at new number) =
        subst (λ (o : Option Store). IsStore join (came ++ e ∷ []) (places ++ length came ∷ []) (option_map_or (λ (s : Store). s.entries) o [])) (slice_get-map (filed (length came) e) old number ∙ sym one) (now.has kept_is) in
        subst (λ ps. IsStore join (came ++ e ∷ []) ps (entries_at new number)) (without_last places (length came) below)
        (stores_meet_removals join (came ++ e ∷ []) (places ++ length came ∷ []) (other_than (length came)) (entries_at new number) there)

-- nothing was woven in yet
pub rule_left : (came : List Element) (places : List ℕ) (e : Element) (old new : List Store) (rule : RuleRows) → AllByRecursion (λ p. p < length came) places → AreFiledOrNot (length came) e old new → IsRight came places old rule → IsRight (came ++ e ∷ []) places new rule
rule_left came places e old new rule below either held = record {
  count = held.count;
  filed = subst (λ ps. AreFiled rule.joins.positives (came ++ e ∷ []) ps rule.levels) (without_last places (length came) below)
      (levels_meet_removals rule.joins.positives (came ++ e ∷ []) (places ++ length came ∷ []) (other_than (length came)) rule.levels (levels_meet_arrivals rule.joins.positives came places e rule.levels below held.filed));
  served = λ at join there.
      let found = held.served at join there in
      (found.0, found.1, IsServed-either join (nat_lt 0 at) came places e old new found.0 below either found.2);
  right = weaving_may_stop (joins_of rule.joins.positives) came places e (rows_of rule.levels) (rows_of rule.levels) below (nothing_added (came ++ e ∷ []) (length came) (rows_of rule.levels)) held.right;
}

-- a weave stopped
pub rule_stopped : (came : List Element) (places : List ℕ) (e : Element) (old new : List Store) (before after : RuleRows) → AllByRecursion (λ p. p < length came) places → IsRight came places old before → IsStopped (came ++ e ∷ []) (places ++ length came ∷ []) (length came) new before after → IsRight (came ++ e ∷ []) places new after
rule_stopped came places e old new before after below was held = record {
  count = ap length held.stores ∙ was.count ∙ ap (λ (j : Joins). length j.positives) (sym held.joins);
  filed = subst (λ ps. AreFiled after.joins.positives (came ++ e ∷ []) ps after.levels) (without_last places (length came) below)
      (levels_meet_removals after.joins.positives (came ++ e ∷ []) (places ++ length came ∷ []) (other_than (length came)) after.levels held.filed);
  served = λ at join there.
      let found = held.served at join there in (
        found.0,
        found.1,
        record {
          serves = found.2.serves;
          has = λ kept. subst (λ ps. IsStore join (came ++ e ∷ []) ps (entries_at new found.0)) (without_last places (length came) below)
              (stores_meet_removals join (came ++ e ∷ []) (places ++ length came ∷ []) (other_than (length came)) (entries_at new found.0) (found.2.has kept));
        },
      );
  right = subst (λ (j : Joins). AreLevels (joins_of j.positives) (came ++ e ∷ []) places (rows_of after.levels)) (sym held.joins)
      (weaving_may_stop (joins_of before.joins.positives) came places e (rows_of before.levels) (rows_of after.levels) below held.adds was.right);
}

-- what holds at each number holds of each
pub each_by_number : (P : RuleRows → Type 0) (rules : List RuleRows) → ((n : ℕ) (rule : RuleRows) → slice_get rules n ≡ Some rule → P rule) → AllByRecursion P rules
each_by_number P [] holds = tt
each_by_number P (rule ∷ rules) holds = (holds zero rule refl, each_by_number P rules (λ n other there. holds (suc n) other there))

pub rules_stopped : (came : List Element) (places : List ℕ) (e : Element) (old new : List Store) (before after : List RuleRows) → AllByRecursion (λ p. p < length came) places → AllByRecursion (IsRight came places old) before → AreStopped (came ++ e ∷ []) (places ++ length came ∷ []) (length came) new before after → AllByRecursion (IsRight (came ++ e ∷ []) places new) after
rules_stopped came places e old new before after below was held =
    each_by_number (IsRight (came ++ e ∷ []) places new) after (λ n rule there.
    let lt : n < length before = omega (arith, within-is after n rule there, held.count) in
    let this = some_at before n lt in
    rule_stopped came places e old new this.item rule below (Each-slice_get (IsRight came places old) before n this.item was this.is) (held.each n this.item rule this.is there))
