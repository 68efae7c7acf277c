-- Who asks which store, as rules are added.
use Rattle.std.proofs.Common.{◌≡◌, ℕ, zero, suc, ◌+◌, ◌<◌, ◌≤◌, ◌==◌, ◌&&◌, List, [], ◌∷◌, ◌++◌, Bool, true, false, cond, get_or, length, refl, ap, subst, sym, ◌∙◌, arith, set, slice_get, take, inl, inr}
use Rattle.std.specs.Option.{option_map_or}
use Rattle.std.proofs.lemmas.Bool.{and_parts, cases_eq, eq-eqb, eqb-true, ne_eqb}
use Rattle.std.proofs.lemmas.Bool.Decides.{nat_tests}
use Rattle.std.proofs.lemmas.List.{get_or-set_other, get_or-set_same, get_or_default, take_all, take_more}
use Rattle.match_network.specs.declared.askers.Asker.{Asker}
use Rattle.match_network.specs.Rules.{AreAskers, askers_at, asks, is_asker}
use Rattle.alpha_memory.specs.Times.{times}
use Rattle.match_network.proofs.ComeLemmas.{slice_get-past}
use Rattle.alpha_memory.proofs.TimesLemmas.{times-append}

zero_first : (n : ℕ) → (zero == suc n) ≡ false
zero_first n = grind (arith, nat_tests)

zero_last : (n : ℕ) → (suc n == zero) ≡ false
zero_last n = grind (arith, nat_tests)

both_less : (n m : ℕ) → (suc n == suc m) ≡ (n == m)
both_less n m = grind (arith, nat_tests)

-- a store that nobody asks yet
pub askers-none : (askers : List (List Asker)) (at : ℕ) → askers_at (askers ++ [] ∷ []) at ≡ askers_at askers at
askers-none [] zero = refl
askers-none [] (suc at) = refl
askers-none (first ∷ askers) zero = refl
askers-none (first ∷ askers) (suc at) = askers-none askers at

-- one more asks a store
pub askers-set : (askers : List (List Asker)) (store : ℕ) (asker : Asker) (those old : List Asker) (at : ℕ) → store < length askers → old ≡ get_or askers store old → those ≡ old ++ asker ∷ [] → askers_at (set askers store those) at ≡ cond (store == at) (askers_at askers at ++ asker ∷ []) (askers_at askers at)
askers-set askers store asker those old at lt old_is is = elim (cases_eq at store) [
  | inl same ↦
      subst (λ n. askers_at (set askers store those) n ≡ cond (store == n) (askers_at askers n ++ asker ∷ []) (askers_at askers n)) (sym same)
      (get_or-set_same askers store those [] lt ∙ is ∙ ap (λ xs. xs ++ asker ∷ []) (old_is ∙ get_or_default askers store old [] lt)
      ∙ ap (λ b. cond b (askers_at askers store ++ asker ∷ []) (askers_at askers store)) (sym (eq-eqb store store refl)))
  | inr apart ↦
      get_or-set_other askers store at those [] apart
      ∙ ap (λ b. cond b (askers_at askers at ++ asker ∷ []) (askers_at askers at)) (sym (ne_eqb store at (λ same. apart (sym same))))
]

-- a rule with no stores yet
pub asks-none : (before : List (List ℕ)) (rule condition store : ℕ) → asks (before ++ [] ∷ []) rule condition store ≡ asks before rule condition store
asks-none [] zero condition store = refl
asks-none [] (suc rule) condition store = refl
asks-none (first ∷ before) zero condition store = refl
asks-none (first ∷ before) (suc rule) condition store = asks-none before rule condition store

-- one store more for the last rule
last_more : (stores : List ℕ) (more condition store : ℕ) → option_map_or (λ n. n == store) (slice_get (stores ++ more ∷ []) condition) false ≡ cond (length stores == condition) (more == store) (option_map_or (λ n. n == store) (slice_get stores condition) false)
last_more [] more zero store = refl
last_more [] more (suc condition) store = ap (λ b. cond b (more == store) false) (sym (zero_first condition))
last_more (first ∷ stores) more zero store = ap (λ b. cond b (more == store) (first == store)) (sym (zero_last (length stores)))
last_more (first ∷ stores) more (suc condition) store =
    last_more stores more condition store
    ∙ ap (λ b. cond b (more == store) (option_map_or (λ n. n == store) (slice_get stores condition) false)) (sym (both_less (length stores) condition))

asks-more : (before : List (List ℕ)) (stores : List ℕ) (more rule condition store : ℕ) → asks (before ++ (stores ++ more ∷ []) ∷ []) rule condition store ≡ cond ((length before == rule) && (length stores == condition)) (more == store) (asks (before ++ stores ∷ []) rule condition store)
asks-more [] stores more zero condition store = last_more stores more condition store
asks-more [] stores more (suc rule) condition store = ap (λ b. cond (b && (length stores == condition)) (more == store) false) (sym (zero_first rule))
asks-more (first ∷ before) stores more zero condition store =
    ap (λ b. cond (b && (length stores == condition)) (more == store) (asks (first ∷ (before ++ stores ∷ [])) zero condition store)) (sym (zero_last (length before)))
asks-more (first ∷ before) stores more (suc rule) condition store =
    asks-more before stores more rule condition store
    ∙ ap (λ b. cond (b && (length stores == condition)) (more == store) (asks (before ++ stores ∷ []) rule condition store)) (sym (both_less (length before) rule))

at_end : (before : List (List ℕ)) (stores : List ℕ) (condition store : ℕ) → asks (before ++ stores ∷ []) (length before) condition store ≡ option_map_or (λ n. n == store) (slice_get stores condition) false
at_end [] stores condition store = refl
at_end (first ∷ before) stores condition store = at_end before stores condition store

asks-fresh : (before : List (List ℕ)) (stores : List ℕ) (rule condition store : ℕ) → ((length before == rule) && (length stores == condition)) ≡ true → asks (before ++ stores ∷ []) rule condition store ≡ false
asks-fresh before stores rule condition store is =
    let both = and_parts (length before == rule) (length stores == condition) is in
    let rule_is : length before ≡ rule = eqb-true (length before) rule both.0 in
    let condition_is : length stores ≡ condition = eqb-true (length stores) condition both.1 in
    subst (λ r. asks (before ++ stores ∷ []) r condition store ≡ false) rule_is
    (at_end before stores condition store ∙ ap (λ n. option_map_or (λ m. m == store) n false) (slice_get-past stores condition (omega (arith, condition_is))))

counted : (old here : Bool) (hit : Bool) → (here ≡ true → old ≡ false) → cond old 1 0 + cond hit (cond here 1 0) 0 ≡ cond (cond here hit old) 1 0
counted true true hit fresh = absurd (let wrong : true ≡ false = fresh refl in let no : ⊥ = cc in no)
counted false true true fresh = refl
counted false true false fresh = refl
counted true false true fresh = refl
counted true false false fresh = refl
counted false false true fresh = refl
counted false false false fresh = refl

times_either : (test : Asker → Bool) (hit : Bool) (askers : List Asker) (asker : Asker) → times test (cond hit (askers ++ asker ∷ []) askers) ≡ times test askers + cond hit (cond (test asker) 1 0) 0
times_either test true askers asker = times-append test askers (asker ∷ []) ∙ (let same : times test askers + (cond (test asker) 1 0 + 0) ≡ times test askers + cond (test asker) 1 0 = omega arith in same)
times_either test false askers asker = let same : times test askers ≡ times test askers + 0 = omega arith in same

pub AreAskers-none : (before : List (List ℕ)) (askers : List (List Asker)) → AreAskers before askers → AreAskers (before ++ [] ∷ []) askers
AreAskers-none before askers held = record {
  each = λ store rule condition. held.each store rule condition ∙ ap (λ b. cond b 1 0) (sym (asks-none before rule condition store));
}

pub AreAskers-more : (before : List (List ℕ)) (stores : List ℕ) (more : ℕ) (old new : List (List Asker)) (asker : Asker) → asker.rule ≡ length before → asker.condition ≡ length stores → ((at : ℕ) → askers_at new at ≡ cond (more == at) (askers_at old at ++ asker ∷ []) (askers_at old at)) → AreAskers (before ++ stores ∷ []) old → AreAskers (before ++ (stores ++ more ∷ []) ∷ []) new
AreAskers-more before stores more old new asker rule_is condition_is noted held = record {
  each = λ store rule condition.
      let here = (length before == rule) && (length stores == condition) in
      let this : is_asker rule condition asker ≡ here = ap (λ r. (r == rule) && (asker.condition == condition)) rule_is ∙ ap (λ k. (length before == rule) && (k == condition)) condition_is in
      ap (times (is_asker rule condition)) (noted store)
      ∙ times_either (is_asker rule condition) (more == store) (askers_at old store) asker
      ∙ ap (λ n. n + cond (more == store) (cond (is_asker rule condition asker) 1 0) 0) (held.each store rule condition)
      ∙ ap (λ b. cond (asks (before ++ stores ∷ []) rule condition store) 1 0 + cond (more == store) (cond b 1 0) 0) this
      ∙ counted (asks (before ++ stores ∷ []) rule condition store) here (more == store) (asks-fresh before stores rule condition store)
      ∙ ap (λ b. cond b 1 0) (sym (asks-more before stores more rule condition store));
}

-- what is noted of the rules before and of the first stores of a rule
pub record AreNoted (rule : ℕ) (old : List (List Asker)) (stores : List ℕ) (new : List (List Asker)) : Type 0 where
  pub noted : (before : List (List ℕ)) → length before ≡ rule → AreAskers before old → AreAskers (before ++ stores ∷ []) new

pub AreNoted-none : (rule : ℕ) (old : List (List Asker)) → AreNoted rule old [] old
AreNoted-none rule old = record { noted = λ before long held. AreAskers-none before old held }

pub AreNoted-more : (rule : ℕ) (old : List (List Asker)) (stores : List ℕ) (condition : ℕ) (now new : List (List Asker)) → condition < length stores → ((at : ℕ) → askers_at new at ≡ cond (get_or stores condition 0 == at) (askers_at now at ++ record { rule = rule; condition = condition } ∷ []) (askers_at now at)) → AreNoted rule old (take condition stores) now → AreNoted rule old (take (condition + 1) stores) new
AreNoted-more rule old stores condition now new lt noted held = record {
  noted = λ before long start.
      subst (λ some. AreAskers (before ++ some ∷ []) new) (sym (take_more stores condition 0 lt))
      (AreAskers-more before (take condition stores) (get_or stores condition 0) now new (record { rule = rule; condition = condition }) (sym long) (sym (taken stores condition lt)) noted (held.noted before long start));
}
  where
    taken : (xs : List ℕ) (n : ℕ) → n < length xs → length (take n xs) ≡ n
    taken [] n less = absurd (omega (arith, less))
    taken (x ∷ xs) zero less = refl
    taken (x ∷ xs) (suc n) less = ap suc (taken xs n (omega (arith, less)))

pub AreNoted-all : (rule : ℕ) (old : List (List Asker)) (stores : List ℕ) (condition : ℕ) (new : List (List Asker)) → length stores ≤ condition → AreNoted rule old (take condition stores) new → AreNoted rule old stores new
AreNoted-all rule old stores condition new le held = subst (λ some. AreNoted rule old some new) (take_all condition stores le) held
