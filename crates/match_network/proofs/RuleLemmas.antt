-- What is kept of a rule, at the start and as other rules come.
use Rattle.std.proofs.Common.{◌≡◌, ◌⊎◌, inl, inr, ℕ, zero, suc, ◌+◌, ◌<◌, ◌≤◌, List, [], ◌∷◌, ◌++◌, length, nat_lt, Some, refl, ap, subst, sym, ◌∙◌, arith, slice_get, length-append, take}
use Rattle.std.proofs.lemmas.Bool.{cases_eq}
use Rattle.rule_base.proofs.EachLemmas.{Each-append}
use Rattle.join_tests.specs.declared.joins.Join.{Join}
use Rattle.alpha_memory.specs.Stores.{Serves, Store, without_entries}
use Rattle.alpha_memory.proofs.ServesLemmas.{Serves-push}
use Rattle.match_network.specs.Conditions.{AreStores, entries_at}
use Rattle.match_network.specs.Filed.{IsStore}
use Rattle.match_network.specs.Rules.{AreAsked, AreBare, GoesOn, IsRight, RuleRows}
use Rattle.match_network.proofs.ComeLemmas.{slice_get-more}

pub GoesOn-none : (stores : List Store) → GoesOn stores stores
GoesOn-none stores = record { serves = λ wanted number held. held }

pub GoesOn-more : (old now new : List Store) → GoesOn old now → GoesOn now new → GoesOn old new
GoesOn-more old now new first second = record { serves = λ wanted number held. second.serves wanted number (first.serves wanted number held) }

-- a store was asked for
pub GoesOn-grows : (store : Store) (old new : List Store) → (new ≡ old) ⊎ (new ≡ old ++ store ∷ []) → GoesOn old new
GoesOn-grows store old new grows = record {
  serves = λ wanted number held. elim grows [
    | inl same ↦ subst (λ stores. Serves wanted stores number) (sym same) held
    | inr one ↦ subst (λ stores. Serves wanted stores number) (sym one) (Serves-push wanted store old number held)
  ];
}

pub AreBare-grows : (store : Store) (old new : List Store) → store.entries ≡ [] → (new ≡ old) ⊎ (new ≡ old ++ store ∷ []) → AreBare old → AreBare new
AreBare-grows store old new none grows held = elim grows [
  | inl same ↦ subst AreBare (sym same) held
  | inr one ↦ subst AreBare (sym one) (Each-append (λ (s : Store). s.entries ≡ []) old (store ∷ []) held (none, tt))
]

-- the first condition elements have asked for their stores
pub record AreAskedTo (all : List Join) (count : ℕ) (alpha : List Store) (numbers : List ℕ) : Type 0 where
  pub long : length numbers ≡ count
  pub each : (at : ℕ) (join : Join) → at < count → slice_get all at ≡ Some join → (number : ℕ) × (slice_get numbers at ≡ Some number) × Serves (without_entries join.pattern join.key (nat_lt 0 at)) alpha number

pub AreAskedTo-none : (all : List Join) (alpha : List Store) → AreAskedTo all 0 alpha []
AreAskedTo-none all alpha = record { long = refl; each = λ at join lt there. absurd (omega (arith, lt)) }

pub last_at : (numbers : List ℕ) (number : ℕ) → slice_get (numbers ++ number ∷ []) (length numbers) ≡ Some number
last_at [] number = refl
last_at (first ∷ numbers) number = last_at numbers number

pub AreAskedTo-more : (all : List Join) (count : ℕ) (old new : List Store) (numbers more : List ℕ) (this : Join) (number : ℕ) → slice_get all count ≡ Some this → GoesOn old new → Serves (without_entries this.pattern this.key (nat_lt 0 count)) new number → more ≡ numbers ++ number ∷ [] → AreAskedTo all count old numbers → AreAskedTo all (count + 1) new more
AreAskedTo-more all count old new numbers more this number there_now goes_on serves is held = record {
  long = ap length is ∙ length-append numbers (number ∷ []) ∙ ap (λ n. n + 1) held.long;
  each = λ at join lt there. elim (cases_eq at count) [
    | inl same ↦
        let found : Some join ≡ Some this = sym there ∙ ap (slice_get all) same ∙ there_now in
        let join_is : this ≡ join = cc in
        let served : Serves (without_entries join.pattern join.key (nat_lt 0 at)) new number =
        subst (λ n. Serves (without_entries join.pattern join.key (nat_lt 0 n)) new number) (sym same)
        (subst (λ (j : Join). Serves (without_entries j.pattern j.key (nat_lt 0 count)) new number) join_is serves) in
        (number, ap (λ ns. slice_get ns at) is ∙ ap (slice_get (numbers ++ number ∷ [])) (same ∙ sym held.long) ∙ last_at numbers number, served)
    | inr apart ↦
        let less : at < count = omega (arith, lt, apart) in
        let found = held.each at join less there in (
          found.0,
          ap (λ ns. slice_get ns at) is ∙ slice_get-more numbers at (number ∷ []) (let within : at < length numbers = omega (arith, less, held.long) in within) ∙ found.1,
          goes_on.serves (without_entries join.pattern join.key (nat_lt 0 at)) found.0 found.2,
        )
  ];
}

pub AreAskedTo-all : (all : List Join) (count : ℕ) (alpha : List Store) (numbers : List ℕ) → length all ≤ count → AreAskedTo all count alpha numbers → AreAsked all alpha numbers
AreAskedTo-all all count alpha numbers le held at join there = held.each at join (let lt : at < count = omega (arith, le, within all at join there) in lt) there
  where
    within : (xs : List Join) (i : ℕ) (x : Join) → slice_get xs i ≡ Some x → i < length xs
    within [] i x is = absurd (let wrong : ⊥ = cc in wrong)
    within (y ∷ xs) zero x is = omega arith
    within (y ∷ xs) (suc i) x is = omega (arith, within xs i x is)

-- bare stores serve while no element is there
pub bare_at : (alpha : List Store) (number : ℕ) → AreBare alpha → entries_at alpha number ≡ []
bare_at [] number bare = refl
bare_at (store ∷ alpha) zero bare = bare.0
bare_at (store ∷ alpha) (suc number) bare = bare_at alpha number bare.1

pub bare_serve : (all : List Join) (alpha : List Store) (numbers : List ℕ) → AreBare alpha → AreAsked all alpha numbers → AreStores all [] [] numbers alpha
bare_serve all alpha numbers bare asked at join there =
    let found = asked at join there in
    let empty : IsStore join [] [] [] = record { living = refl; have_come = tt } in
    (found.0, found.1, record { serves = found.2; has = λ kept. subst (IsStore join [] []) (sym (bare_at alpha found.0 bare)) empty })

-- and go on so as other stores come
pub bare_right : (old new : List Store) (rule : RuleRows) → GoesOn old new → AreBare new → IsRight [] [] old rule → IsRight [] [] new rule
bare_right old new rule goes_on bare held = record {
  count = held.count;
  filed = held.filed;
  served = bare_serve rule.joins.positives new rule.stores bare (λ at join there. let found = held.served at join there in (found.0, found.1, goes_on.serves (without_entries join.pattern join.key (nat_lt 0 at)) found.0 found.2.serves));
  right = held.right;
}

-- a level list that was written in place
pub front_again : {X : Type 0} (xs ys : List X) (n : ℕ) → n ≡ length xs → take n (xs ++ ys) ≡ xs
front_again [] ys n is = ap (λ k. take k ys) is
front_again (x ∷ xs) ys zero is = absurd (omega (arith, is))
front_again (x ∷ xs) ys (suc n) is = ap (λ zs. x ∷ zs) (front_again xs ys n (omega (arith, is)))
