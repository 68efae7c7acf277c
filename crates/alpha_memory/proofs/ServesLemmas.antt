-- A store goes on to serve whom it serves, whatever is filed, cleaned or packed, and whichever stores come.
use Rattle.std.proofs.Common.{◌≡◌, inl, inr, ℕ, ◌+◌, ◌<◌, ◌==◌, ◌++◌, List, [], ◌∷◌, Bool, true, false, cond, Option, None, Some, length, map, refl, ap, ◌∙◌, arith}
use Rattle.std.specs.List.{AllByRecursion, slice_get}
use Rattle.std.specs.Option.{option_map, option_map_or}
use Rattle.std.proofs.lemmas.Bool.Decides.{nat_tests}
use Rattle.std.proofs.lemmas.Option.{slice_get-map, slice_get_within}
use Rattle.rule_base.specs.declared.element.Element.{Element}
use Rattle.alpha_memory.specs.Times.{times}
use Rattle.alpha_memory.specs.Stores.{AreFiledOrNot, Serves, Store, admits, emptied, filed, has_at, hash_at, with_change, with_place}
use Rattle.alpha_memory.proofs.ChangeLemmas.{slice_get-with_change}
use Rattle.alpha_memory.proofs.DispatchedLemmas.{slice_get-before}

-- what is filed is no part of what a store asks
emptied_entries : (s : Store) (entries : List (ℕ × ℕ)) (b : Bool) → emptied (cond b (record s { entries = entries }) s) ≡ emptied s
emptied_entries s entries true = refl
emptied_entries s entries false = refl

emptied_either : (s filed : Store) (b : Bool) → emptied filed ≡ emptied s → emptied (cond b filed s) ≡ emptied s
emptied_either s filed true same = same
emptied_either s filed false same = refl

pub emptied-filed : (place : ℕ) (e : Element) (s : Store) → emptied (filed place e s) ≡ emptied s
emptied-filed place e s = emptied_either s (with_place place e s) (admits e s) (emptied_entries s (s.entries ++ (hash_at s.attributes e, place) ∷ []) s.is_kept)

emptied_map : (f : Store → Store) → ((s : Store) → emptied (f s) ≡ emptied s) → (store : Option Store) → option_map emptied (option_map f store) ≡ option_map emptied store
emptied_map f keeps None = refl
emptied_map f keeps (Some s) = ap Some (keeps s)

-- a store that serves is there
there_where_served : (wanted : Store) (stores : List Store) (n : ℕ) (store : Option Store) → slice_get stores n ≡ store → option_map emptied store ≡ Some (emptied wanted) → n < length stores
there_where_served wanted stores n None is serves = absurd (let wrong : ⊥ = cc in wrong)
there_where_served wanted stores n (Some store) is serves = slice_get_within stores n store is

pub Serves-within : (wanted : Store) (stores : List Store) (n : ℕ) → Serves wanted stores n → n < length stores
Serves-within wanted stores n serves = there_where_served wanted stores n (slice_get stores n) refl serves

pub Serves-filed : (place : ℕ) (e : Element) (wanted : Store) (stores : List Store) (n : ℕ) → Serves wanted stores n → Serves wanted (map (filed place e) stores) n
Serves-filed place e wanted stores n serves =
    ap (option_map emptied) (slice_get-map (filed place e) stores n) ∙ emptied_map (filed place e) (emptied-filed place e) (slice_get stores n) ∙ serves

pub Serves-filed_or_not : (place : ℕ) (e : Element) (wanted : Store) (before after : List Store) (n : ℕ) → AreFiledOrNot place e before after → Serves wanted before n → Serves wanted after n
Serves-filed_or_not place e wanted before after n either serves = elim (either n) [
  | inl same ↦ ap (option_map emptied) same ∙ serves
  | inr one ↦ ap (option_map emptied) one ∙ emptied_map (filed place e) (emptied-filed place e) (slice_get before n) ∙ serves
]

changed_or_not : (f : Store → Store) → ((s : Store) → emptied (f s) ≡ emptied s) → (here : Bool) (store : Option Store) → option_map emptied (cond here (option_map f store) store) ≡ option_map emptied store
changed_or_not f keeps true store = emptied_map f keeps store
changed_or_not f keeps false store = refl

-- a store was cleaned or packed: `λ s. refl` serves as the premise then
pub Serves-with_change : (f : Store → Store) → ((s : Store) → emptied (f s) ≡ emptied s) → (m : ℕ) (wanted : Store) (stores : List Store) (n : ℕ) → Serves wanted stores n → Serves wanted (with_change f m stores) n
Serves-with_change f keeps m wanted stores n serves =
    ap (option_map emptied) (slice_get-with_change f m n stores) ∙ changed_or_not f keeps (n == m) (slice_get stores n) ∙ serves

pub Serves-push : (wanted store : Store) (stores : List Store) (n : ℕ) → Serves wanted stores n → Serves wanted (stores ++ store ∷ []) n
Serves-push wanted store stores n serves = ap (option_map emptied) (slice_get-before stores store n (Serves-within wanted stores n serves)) ∙ serves

-- numbers of stores that were passed are numbers of stores
there_where_counted : (test : Store → Bool) (stores : List Store) (n often : ℕ) (store : Option Store) → slice_get stores n ≡ store → often ≡ cond (option_map_or test store false) 1 0 → 0 < often → n < length stores
there_where_counted test stores n often None is counted some = absurd (omega (arith, counted, some))
there_where_counted test stores n often (Some store) is counted some = slice_get_within stores n store is

counted_first : (n : ℕ) (ns : List ℕ) → 0 < times (λ m. n == m) (n ∷ ns)
counted_first n ns =
    let itself : (n == n) ≡ true = grind (arith, nat_tests) in
    let first : times (λ m. n == m) (n ∷ ns) ≡ 1 + times (λ m. n == m) ns = ap (λ b. cond b 1 0 + times (λ m. n == m) ns) itself in
    omega (arith, first)

passed_within_from : (test : Store → Bool) (stores : List Store) (ns : List ℕ) → ((n : ℕ) → 0 < times (λ m. n == m) ns → n < length stores) → AllByRecursion (λ n. n < length stores) ns
passed_within_from test stores [] there = tt
passed_within_from test stores (n ∷ ns) there =
    (there n (counted_first n ns), passed_within_from test stores ns (λ k some. there k (omega (arith, some))))

pub passed_within : (test : Store → Bool) (stores : List Store) (ns : List ℕ) → ((n : ℕ) → times (λ m. n == m) ns ≡ cond (has_at test stores n) 1 0) → AllByRecursion (λ n. n < length stores) ns
passed_within test stores ns counts = passed_within_from test stores ns (λ n some. there_where_counted test stores n (times (λ m. n == m) ns) (slice_get stores n) refl (counts n) some)
