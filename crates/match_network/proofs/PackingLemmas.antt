-- Levels, rules and stores while they are packed, and the network that is left.
use Rattle.std.proofs.Common.{◌≡◌, ◌⊎◌, inl, inr, ℕ, zero, suc, true, ◌+◌, ◌<◌, ◌≤◌, List, [], ◌∷◌, Bool, drop, filter, length, map, Option, None, Some, refl, ap, subst, sym, ◌∙◌, arith, set, slice_get}
use Rattle.std.specs.List.{AllByRecursion}
use Rattle.std.specs.Option.{option_map, option_map_or}
use Rattle.std.proofs.lemmas.Bool.{cases_eq, cases_lt}
use Rattle.std.proofs.lemmas.List.{get_or-set_other, get_or-set_same, length-set}
use Rattle.rule_base.specs.declared.element.Element.{Element}
use Rattle.rule_base.specs.Numbers.{has_number}
use Rattle.rule_base.proofs.EachLemmas.{Each-slice_get, Each-weaker}
use Rattle.join_tests.specs.declared.joins.Join.{Join}
use Rattle.join_tests.specs.declared.joins.Joins.{Joins}
use Rattle.alpha_memory.specs.Stores.{Store, emptied, packed as store_packed, with_change}
use Rattle.match_network.specs.declared.askers.Asker.{Asker}
use Rattle.match_network.specs.Conditions.{AreCleaned, AreFiled, AreStores, joins_of, level_at, rows_of}
use Rattle.match_network.specs.Filed.{LevelRows, packed}
use Rattle.match_network.specs.Joining.{IsCleaned}
use Rattle.match_network.specs.Levels.{AreLevels}
use Rattle.match_network.specs.Negated.{negated_in}
use Rattle.match_network.specs.Network.{IsNetwork, joins_in}
use Rattle.match_network.specs.Packing.{ArePacked, AreRepacked, IsPacked, IsPartlyPacked, IsRepacked, IsRepackedAt, MayBePacked}
use Rattle.match_network.specs.Row.{is_living}
use Rattle.match_network.specs.Rules.{AreAskers, IsRight, RuleRows}
use Rattle.match_network.proofs.ComeLemmas.{some_at}
use Rattle.match_network.proofs.DueLemmas.{set_other, set_same}
use Rattle.match_network.proofs.FiledLemmas.{IsCleaned-none}
use Rattle.match_network.proofs.FilingLemmas.{levels_may_be_packed}
use Rattle.match_network.proofs.GivenLemmas.{within-is}
use Rattle.match_network.proofs.LevelLemmas.{dead_may_go}
use Rattle.match_network.proofs.NegatedLemmas.{negated_over}
use Rattle.match_network.proofs.SetChangeLemmas.{same_parts}
use Rattle.match_network.proofs.StopLemmas.{each_by_number}
use Rattle.match_network.proofs.StoreLemmas.{AreStores-cleaned, IsServed-cleaned}

-- the first levels are packed, and the others are as before
pub record IsPackedTo (all : List Join) (came : List Element) (places : List ℕ) (number : ℕ) (old : List LevelRows) (new : List LevelRows) : Type 0 where
  pub filed : AreFiled all came places new
  pub done : (n : ℕ) → n < number → (level_at new n).rows ≡ filter (is_living places) (level_at old n).rows
  pub left : (n : ℕ) → number ≤ n → level_at new n ≡ level_at old n

pub IsPackedTo-none : (all : List Join) (came : List Element) (places : List ℕ) (levels : List LevelRows) → AreFiled all came places levels → IsPackedTo all came places 0 levels levels
IsPackedTo-none all came places levels filed = record { filed = filed; done = λ n lt. absurd (omega (arith, lt)); left = λ n le. refl }

abbrev nowhere : LevelRows
nowhere = record { width = 0; rows = []; entries = [] }

pub IsPackedTo-more : (all : List Join) (came : List Element) (places : List ℕ) (number : ℕ) (old now new : List LevelRows) → number < length now → new ≡ set now number (packed (drop (number + 1) all) came places (level_at now number)) → IsPackedTo all came places number old now → IsPackedTo all came places (number + 1) old new
IsPackedTo-more all came places number old now new lt is held =
    let level = packed (drop (number + 1) all) came places (level_at now number) in
    let other_is : (n : ℕ) → (n ≡ number → ⊥) → level_at new n ≡ level_at now n =
    λ n apart. ap (λ ls. level_at ls n) is ∙ get_or-set_other now number n level nowhere apart in
    record {
      filed = subst (AreFiled all came places) (sym is) (levels_may_be_packed all came places now number lt held.filed);
      done = λ n less. elim (cases_eq n number) [
        | inl same ↦
            ap (λ ls. (level_at ls n).rows) is
            ∙ ap (λ m. (level_at (set now number level) m).rows) same
            ∙ ap (λ (l : LevelRows). l.rows) (get_or-set_same now number level nowhere lt)
            ∙ ap (λ (l : LevelRows). filter (is_living places) l.rows) (held.left number (omega arith))
            ∙ ap (λ m. filter (is_living places) (level_at old m).rows) (sym same)
        | inr apart ↦ ap (λ (l : LevelRows). l.rows) (other_is n apart) ∙ held.done n (omega (arith, less, apart))
      ];
      left = λ n le. other_is n (λ same. omega (arith, le, same)) ∙ held.left n (omega (arith, le));
    }

level_at-past : (levels : List LevelRows) (n : ℕ) → length levels ≤ n → level_at levels n ≡ nowhere
level_at-past [] n le = refl
level_at-past (level ∷ levels) zero le = absurd (omega (arith, le))
level_at-past (level ∷ levels) (suc n) le = level_at-past levels n (omega (arith, le))

pub IsPackedTo-part : (all : List Join) (came : List Element) (places : List ℕ) (number : ℕ) (old new : List LevelRows) → IsPackedTo all came places number old new → IsPartlyPacked places (rows_of old) (rows_of new)
IsPackedTo-part all came places number old new held zero = inl refl
IsPackedTo-part all came places number old new held (suc n) = elim (cases_lt n number) [
  | inl lt ↦ inr (held.done n lt)
  | inr le ↦ inl (ap (λ (l : LevelRows). l.rows) (held.left n le))
]

pub IsPackedTo-all : (all : List Join) (came : List Element) (places : List ℕ) (number : ℕ) (old new : List LevelRows) → length new ≤ number → IsPackedTo all came places number old new → IsPacked places (rows_of old) (rows_of new)
IsPackedTo-all all came places number old new long held zero = refl
IsPackedTo-all all came places number old new long held (suc n) = elim (cases_lt n number) [
  | inl lt ↦ held.done n lt
  | inr le ↦
      let none : level_at new n ≡ nowhere = level_at-past new n (omega (arith, le, long)) in
      ap (λ (l : LevelRows). l.rows) none
      ∙ ap (λ (l : LevelRows). filter (is_living places) l.rows) (sym (sym (held.left n le) ∙ none))
]

-- the first rules are packed, and the others are as before
pub record ArePackedTo (came : List Element) (places : List ℕ) (number : ℕ) (old : List RuleRows) (now : List RuleRows) : Type 0 where
  pub each : AreRepacked came places old now
  pub done : (n : ℕ) (before after : RuleRows) → n < number → slice_get old n ≡ Some before → slice_get now n ≡ Some after → IsPacked places (rows_of before.levels) (rows_of after.levels)
  pub left : (n : ℕ) → number ≤ n → slice_get now n ≡ slice_get old n

abbrev pub FiledRule : List Element → List ℕ → RuleRows → Type 0
FiledRule came places rule = AreFiled rule.joins.positives came places rule.levels

pub ArePackedTo-none : (came : List Element) (places : List ℕ) (rules : List RuleRows) → AllByRecursion (FiledRule came places) rules → ArePackedTo came places 0 rules rules
ArePackedTo-none came places rules filed = record {
  each = record {
    count = refl;
    each = λ n before after there got.
        let both : Some before ≡ Some after = sym there ∙ got in
        let same : before ≡ after = cc in
        subst (IsRepacked came places before) same (record { joins = refl; stores = refl; negated = refl; filed = Each-slice_get (FiledRule came places) rules n before filed there; rows = λ width. inl refl });
  };
  done = λ n before after lt there got. absurd (omega (arith, lt));
  left = λ n le. refl;
}

-- the rule that is packed next is one of before
pub next_filed : (came : List Element) (places : List ℕ) (number : ℕ) (old now : List RuleRows) (rule : RuleRows) → AllByRecursion (FiledRule came places) old → ArePackedTo came places number old now → slice_get now number ≡ Some rule → FiledRule came places rule
next_filed came places number old now rule filed held there = Each-slice_get (FiledRule came places) old number rule filed (sym (held.left number (omega arith)) ∙ there)

-- one rule more, packed or in part
pub repacked_at : (came : List Element) (places : List ℕ) (number : ℕ) (old now new : List RuleRows) → IsRepackedAt came places number now new → ArePackedTo came places number old now → AreRepacked came places old new
repacked_at came places number old now new step held = record {
  count = ap length step.is ∙ length-set now number step.after ∙ held.each.count;
  each = λ n before after there got. elim (cases_eq n number) [
    | inl same ↦
        let was : slice_get old number ≡ Some step.before = sym (held.left number (omega arith)) ∙ step.before_is in
        let olds : Some step.before ≡ Some before = sym was ∙ ap (slice_get old) (sym same) ∙ there in
        let before_is : step.before ≡ before = cc in
        let written : slice_get new number ≡ Some step.after = ap (λ rs. slice_get rs number) step.is ∙ set_same now number step.after (within-is now number step.before step.before_is) in
        let news : Some step.after ≡ Some after = sym written ∙ ap (slice_get new) (sym same) ∙ got in
        let after_is : step.after ≡ after = cc in
        subst (IsRepacked came places before) after_is (subst (λ (r : RuleRows). IsRepacked came places r step.after) before_is step.repacked)
    | inr apart ↦ held.each.each n before after there (sym (ap (λ rs. slice_get rs n) step.is ∙ set_other now number n step.after apart) ∙ got)
  ];
}

pub ArePackedTo-more : (came : List Element) (places : List ℕ) (number : ℕ) (old now new : List RuleRows) → (step : IsRepackedAt came places number now new) → ((before after : RuleRows) → slice_get now number ≡ Some before → slice_get new number ≡ Some after → IsPacked places (rows_of before.levels) (rows_of after.levels)) → ArePackedTo came places number old now → ArePackedTo came places (number + 1) old new
ArePackedTo-more came places number old now new step whole held = record {
  each = repacked_at came places number old now new step held;
  done = λ n before after lt there got. elim (cases_eq n number) [
    | inl same ↦
        let was : slice_get old number ≡ Some step.before = sym (held.left number (omega arith)) ∙ step.before_is in
        let olds : Some step.before ≡ Some before = sym was ∙ ap (slice_get old) (sym same) ∙ there in
        let before_is : step.before ≡ before = cc in
        let written : slice_get new number ≡ Some step.after = ap (λ rs. slice_get rs number) step.is ∙ set_same now number step.after (within-is now number step.before step.before_is) in
        let news : Some step.after ≡ Some after = sym written ∙ ap (slice_get new) (sym same) ∙ got in
        let after_is : step.after ≡ after = cc in
        subst (λ (r : RuleRows). IsPacked places (rows_of before.levels) (rows_of r.levels)) after_is
        (subst (λ (r : RuleRows). IsPacked places (rows_of r.levels) (rows_of step.after.levels)) before_is (whole step.before step.after step.before_is written))
    | inr apart ↦
        held.done n before after (omega (arith, lt, apart)) there (sym (ap (λ rs. slice_get rs n) step.is ∙ set_other now number n step.after apart) ∙ got)
  ];
  left = λ n le. ap (λ rs. slice_get rs n) step.is ∙ set_other now number n step.after (λ same. omega (arith, le, same)) ∙ held.left n (omega (arith, le));
}

pub ArePackedTo-all : (came : List Element) (places : List ℕ) (number : ℕ) (old now : List RuleRows) → length now ≤ number → ArePackedTo came places number old now → ArePacked places old now
ArePackedTo-all came places number old now long held = record {
  count = held.each.count;
  each = λ n before after there got. held.done n before after (let lt : n < number = omega (arith, within-is now n after got, long) in lt) there got;
}

-- what is left of all rules
pub AreRepacked-rows : (came : List Element) (places : List ℕ) (old now : List RuleRows) → AreRepacked came places old now → MayBePacked places old now
AreRepacked-rows came places old now held = record { count = held.count; each = λ n before after there got. (held.each n before after there got).rows }

pub AreRepacked-joins : (came : List Element) (places : List ℕ) (old now : List RuleRows) → AreRepacked came places old now → joins_in now ≡ joins_in old
AreRepacked-joins came places old now held = same_parts (λ (r : RuleRows). r.joins) old now held.count (λ n before after there got. (held.each n before after there got).joins)

AreRepacked-negated : (came : List Element) (places : List ℕ) (old now : List RuleRows) → AreRepacked came places old now → negated_in now ≡ negated_in old
AreRepacked-negated came places old now held = same_parts (λ (r : RuleRows). r.negated) old now held.count (λ n before after there got. (held.each n before after there got).negated)

-- a rule that was packed is right, and so is the network
IsRight-repacked : (came : List Element) (places : List ℕ) (alpha more : List Store) (before after : RuleRows) → AreCleaned places alpha more → IsRepacked came places before after → IsRight came places alpha before → IsRight came places more after
IsRight-repacked came places alpha more before after cleaned step held = record {
  count = ap length step.stores ∙ held.count ∙ ap (λ (j : Joins). length j.positives) (sym step.joins);
  filed = step.filed;
  served = subst (λ (j : Joins). AreStores j.positives came places after.stores more) (sym step.joins)
      (subst (λ (ns : List ℕ). AreStores before.joins.positives came places ns more) (sym step.stores)
      (AreStores-cleaned before.joins.positives came places before.stores alpha more cleaned held.served));
  right = subst (λ (j : Joins). AreLevels (joins_of j.positives) came places (rows_of after.levels)) (sym step.joins)
      (dead_may_go (joins_of before.joins.positives) came places (rows_of before.levels) (rows_of after.levels) step.rows held.right);
}

pub IsNetwork-repacked : (came : List Element) (places : List ℕ) (alpha more : List Store) (old now : List RuleRows) (askers asks : List (List Asker)) → AreCleaned places alpha more → AreRepacked came places old now → IsNetwork came places alpha old askers asks → IsNetwork came places more now askers asks
IsNetwork-repacked came places alpha more old now askers asks cleaned packed held = record {
  right = each_by_number (IsRight came places more) now (λ n rule there.
      let this = some_at old n (let lt : n < length old = omega (arith, within-is now n rule there, packed.count) in lt) in
      IsRight-repacked came places alpha more this.item rule cleaned (packed.each n this.item rule this.is there) (Each-slice_get (IsRight came places alpha) old n this.item held.right this.is));
  askers_are = subst (λ stores. AreAskers stores askers)
      (sym (same_parts (λ (r : RuleRows). r.stores) old now packed.count (λ n before after there got. (packed.each n before after there got).stores))) held.askers_are;
  negated_served = negated_over came came places places alpha more old now (AreRepacked-joins came places old now packed) (AreRepacked-negated came places old now packed)
      (λ join number was. IsServed-cleaned join true came places alpha more number cleaned was) held.negated_served;
  negated_askers_are = subst (λ stores. AreAskers stores asks) (sym (AreRepacked-negated came places old now packed)) held.negated_askers_are;
}

pub IsNetwork-filed : (came : List Element) (places : List ℕ) (alpha : List Store) (rules : List RuleRows) (askers asks : List (List Asker)) → IsNetwork came places alpha rules askers asks → AllByRecursion (FiledRule came places) rules
IsNetwork-filed came places alpha rules askers asks held = Each-weaker (IsRight came places alpha) (FiledRule came places) (λ rule right. right.filed) rules held.right

pub AreRepacked-none : (came : List Element) (places : List ℕ) (rules : List RuleRows) → AllByRecursion (FiledRule came places) rules → AreRepacked came places rules rules
AreRepacked-none came places rules filed = (ArePackedTo-none came places rules filed).each

-- the first stores have changed
abbrev pub front_changed : (Store → Store) → ℕ → List Store → List Store
front_changed change zero stores = stores
front_changed change (suc n) [] = []
front_changed change (suc n) (store ∷ stores) = change store ∷ front_changed change n stores

pub front_changed-more : (change : Store → Store) (n : ℕ) (stores : List Store) → with_change change n (front_changed change n stores) ≡ front_changed change (suc n) stores
front_changed-more change zero [] = refl
front_changed-more change zero (store ∷ stores) = refl
front_changed-more change (suc n) [] = refl
front_changed-more change (suc n) (store ∷ stores) = ap (λ ss. change store ∷ ss) (front_changed-more change n stores)

pub front_changed-all : (change : Store → Store) (n : ℕ) (stores : List Store) → length stores ≤ n → front_changed change n stores ≡ map change stores
front_changed-all change zero [] long = refl
front_changed-all change zero (store ∷ stores) long = absurd (omega (arith, long))
front_changed-all change (suc n) [] long = refl
front_changed-all change (suc n) (store ∷ stores) long = ap (λ ss. change store ∷ ss) (front_changed-all change n stores (omega (arith, long)))

-- stores that were packed have lost only what doesn't live
either_at : (change : Store → Store) (n : ℕ) (stores : List Store) (number : ℕ) → (slice_get (front_changed change n stores) number ≡ slice_get stores number) ⊎ (slice_get (front_changed change n stores) number ≡ option_map change (slice_get stores number))
either_at change zero stores number = inl refl
either_at change (suc n) [] number = inl refl
either_at change (suc n) (store ∷ stores) zero = inr refl
either_at change (suc n) (store ∷ stores) (suc number) = either_at change n stores number

asks_alike : (lives : ℕ → Bool) (old new : Option Store) → (new ≡ old) ⊎ (new ≡ option_map (store_packed lives) old) → option_map emptied new ≡ option_map emptied old
asks_alike lives old new (inl same) = ap (option_map emptied) same
asks_alike lives None new (inr one) = ap (option_map emptied) one
asks_alike lives (Some store) new (inr one) = ap (option_map emptied) one

is_cleaned : (places : List ℕ) (old new : Option Store) → (new ≡ old) ⊎ (new ≡ option_map (store_packed (has_number places)) old) → IsCleaned places (option_map_or (λ (s : Store). s.entries) old []) (option_map_or (λ (s : Store). s.entries) new [])
is_cleaned places old new (inl same) = subst (λ (o : Option Store). IsCleaned places (option_map_or (λ (s : Store). s.entries) old []) (option_map_or (λ (s : Store). s.entries) o [])) (sym same) (IsCleaned-none places (option_map_or (λ (s : Store). s.entries) old []))
is_cleaned places None new (inr one) = subst (λ (o : Option Store). IsCleaned places [] (option_map_or (λ (s : Store). s.entries) o [])) (sym one) (IsCleaned-none places [])
is_cleaned places (Some store) new (inr one) =
    subst (λ (o : Option Store). IsCleaned places store.entries (option_map_or (λ (s : Store). s.entries) o [])) (sym one)
    (record { keep = λ entry. has_number places entry.1; is = refl; living = λ entry alive. alive })

pub front_cleaned : (places : List ℕ) (n : ℕ) (stores : List Store) → AreCleaned places stores (front_changed (store_packed (has_number places)) n stores)
front_cleaned places n stores = record {
  asks = λ number. asks_alike (has_number places) (slice_get stores number) (slice_get (front_changed (store_packed (has_number places)) n stores) number) (either_at (store_packed (has_number places)) n stores number);
  each = λ number. is_cleaned places (slice_get stores number) (slice_get (front_changed (store_packed (has_number places)) n stores) number) (either_at (store_packed (has_number places)) n stores number);
}
