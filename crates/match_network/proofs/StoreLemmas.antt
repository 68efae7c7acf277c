-- Stores that were cleaned serve as before.
use Rattle.std.proofs.Common.{◌≡◌, ℕ, ◌<◌, ◌==◌, List, [], Bool, true, false, cond, length, refl, ap, subst, sym, ◌∙◌, arith, nat_lt, Option, None, Some, slice_get}
use Rattle.std.specs.List.{filter}
use Rattle.std.specs.Option.{option_map, option_map_or}
use Rattle.std.proofs.lemmas.Bool.Decides.{nat_tests}
use Rattle.rule_base.specs.declared.element.Element.{Element}
use Rattle.rule_base.specs.Numbers.{has_number}
use Rattle.hash_buckets.specs.Buckets.{stays}
use Rattle.join_tests.specs.declared.joins.Join.{Join}
use Rattle.alpha_memory.specs.Stores.{Store, cleaned, emptied, with_change, without_entries}
use Rattle.alpha_memory.proofs.ChangeLemmas.{slice_get-with_change}
use Rattle.alpha_memory.proofs.ServesLemmas.{Serves-within}
use Rattle.match_network.specs.Conditions.{AreCleaned, AreStores, IsServed, entries_at}
use Rattle.match_network.specs.Joining.{IsCleaned}
use Rattle.match_network.proofs.FiledLemmas.{IsCleaned-more, IsCleaned-none, IsCleaned-stays, IsStore-cleaned}

-- what is filed in a store, if there is one
abbrev entries_in : Option Store → List (ℕ × ℕ)
entries_in store = option_map_or (λ (s : Store). s.entries) store []

-- one store is cleaned
asks_alike : (hash : ℕ) (lives : ℕ → Bool) (here : Bool) (store : Option Store) → option_map emptied (cond here (option_map (cleaned hash lives) store) store) ≡ option_map emptied store
asks_alike hash lives true None = refl
asks_alike hash lives true (Some store) = refl
asks_alike hash lives false store = refl

is_cleaned : (places : List ℕ) (hash : ℕ) (here : Bool) (store : Option Store) → IsCleaned places (entries_in store) (entries_in (cond here (option_map (cleaned hash (has_number places)) store) store))
is_cleaned places hash true None = IsCleaned-none places []
is_cleaned places hash true (Some store) = IsCleaned-stays places store.entries (filter (stays hash (has_number places)) store.entries) hash refl
is_cleaned places hash false store = IsCleaned-none places (entries_in store)

pub one_cleaned : (places : List ℕ) (old new : List Store) (number hash : ℕ) → new ≡ with_change (cleaned hash (has_number places)) number old → AreCleaned places old new
one_cleaned places old new number hash is =
    let at : (n : ℕ) → slice_get new n ≡ cond (n == number) (option_map (cleaned hash (has_number places)) (slice_get old n)) (slice_get old n) =
    λ n. ap (λ stores. slice_get stores n) is ∙ slice_get-with_change (cleaned hash (has_number places)) number n old in
    record {
      asks = λ n. ap (option_map emptied) (at n) ∙ asks_alike hash (has_number places) (n == number) (slice_get old n);
      each = λ n. subst (λ (store : Option Store). IsCleaned places (entries_at old n) (entries_in store)) (sym (at n)) (is_cleaned places hash (n == number) (slice_get old n));
    }

pub AreCleaned-none : (places : List ℕ) (stores : List Store) → AreCleaned places stores stores
AreCleaned-none places stores = record { asks = λ number. refl; each = λ number. IsCleaned-none places (entries_at stores number) }

pub AreCleaned-more : (places : List ℕ) (old now new : List Store) → AreCleaned places old now → AreCleaned places now new → AreCleaned places old new
AreCleaned-more places old now new first second = record {
  asks = λ number. second.asks number ∙ first.asks number;
  each = λ number. IsCleaned-more places (entries_at old number) (entries_at now number) (entries_at new number) (first.each number) (second.each number);
}

-- a store that was cleaned serves as before
pub IsServed-cleaned : (join : Join) (kept : Bool) (came : List Element) (places : List ℕ) (old new : List Store) (number : ℕ) → AreCleaned places old new → IsServed join kept came places old number → IsServed join kept came places new number
IsServed-cleaned join kept came places old new number cleaned held = record {
  serves = cleaned.asks number ∙ held.serves;
  has = λ is. IsStore-cleaned join came places (entries_at old number) (entries_at new number) (cleaned.each number) (held.has is);
}

pub AreStores-cleaned : (all : List Join) (came : List Element) (places numbers : List ℕ) (old new : List Store) → AreCleaned places old new → AreStores all came places numbers old → AreStores all came places numbers new
AreStores-cleaned all came places numbers old new cleaned held at join there =
    let found = held at join there in
    (found.0, found.1, IsServed-cleaned join (nat_lt 0 at) came places old new found.0 cleaned found.2)

-- a store that serves is there
pub served-within : (join : Join) (kept : Bool) (came : List Element) (places : List ℕ) (stores : List Store) (number : ℕ) → IsServed join kept came places stores number → number < length stores
served-within join kept came places stores number held = Serves-within (without_entries join.pattern join.key kept) stores number held.serves

-- what is filed in the store that was cleaned
pub entries_cleaned : (places : List ℕ) (old new : List Store) (number hash : ℕ) (store : Store) → new ≡ with_change (cleaned hash (has_number places)) number old → slice_get new number ≡ Some store → store.entries ≡ filter (stays hash (has_number places)) (entries_at old number)
entries_cleaned places old new number hash store is there =
    sym (ap entries_in there)
    ∙ ap (λ stores. entries_at stores number) is
    ∙ ap entries_in (slice_get-with_change (cleaned hash (has_number places)) number number old)
    ∙ here (number == number) (slice_get old number) same
  where
    same : (number == number) ≡ true
    same = grind (arith, nat_tests)

    here : (b : Bool) (o : Option Store) → b ≡ true → entries_in (cond b (option_map (cleaned hash (has_number places)) o) o) ≡ filter (stays hash (has_number places)) (entries_in o)
    here true None is = refl
    here true (Some s) is = refl
    here false o is = absurd (let wrong : ⊥ = cc in wrong)

pub past_first : (number : ℕ) → 0 < number → nat_lt 0 number ≡ true
past_first number some = grind (arith, nat_tests)
