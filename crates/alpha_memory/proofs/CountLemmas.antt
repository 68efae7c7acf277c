-- How many places are filed, as an element is filed in one store after another.
use Rattle.std.proofs.Common.{◌≡◌, ℕ, zero, suc, ◌+◌, ◌≤◌, List, [], ◌∷◌, ◌++◌, Bool, true, false, cond, length, Result, Ok, Err, arith, length-append, subst, sym}
use Rattle.std.specs.Result.{OnErr, OnOk}
use Rattle.std.proofs.lemmas.List.Sums.{sum_by-cons}
use Rattle.rule_base.specs.declared.element.Element.{Element}
use Rattle.alpha_memory.specs.Stores.{Store, hash_at, places_filed, with_change, with_changes, with_place}

-- one place more, if the store keeps places
one_step : (store : Store) (entries : List (ℕ × ℕ)) (kept : Bool) → length entries ≡ length store.entries + 1 → length (cond kept (record store { entries = entries }) store).entries ≤ length store.entries + 1
one_step store entries true is = omega (arith, is)
one_step store entries false is = omega arith

one_place : (place : ℕ) (e : Element) (store : Store) → length (with_place place e store).entries ≤ length store.entries + 1
one_place place e store = one_step store (store.entries ++ (hash_at store.attributes e, place) ∷ []) store.is_kept (length-append store.entries ((hash_at store.attributes e, place) ∷ []))

places_one : (place : ℕ) (e : Element) (n : ℕ) (stores : List Store) → places_filed (with_change (with_place place e) n stores) ≤ places_filed stores + 1
places_one place e n [] = omega arith
places_one place e zero (store ∷ stores) =
    omega (arith, one_place place e store, sum_by-cons (λ (s : Store). length s.entries) store stores, sum_by-cons (λ (s : Store). length s.entries) (with_place place e store) stores)
places_one place e (suc n) (store ∷ stores) =
    omega (arith, places_one place e n stores, sum_by-cons (λ (s : Store). length s.entries) store stores, sum_by-cons (λ (s : Store). length s.entries) store (with_change (with_place place e) n stores))

pub places_many : (place : ℕ) (e : Element) (numbers : List ℕ) (stores : List Store) → places_filed (with_changes (with_place place e) numbers stores) ≤ places_filed stores + length numbers
places_many place e [] stores = omega arith
places_many place e (n ∷ numbers) stores = omega (arith, places_one place e n stores, places_many place e numbers (with_change (with_place place e) n stores))

-- an element was filed in some of the stores that were found
pub counted_after : (place : ℕ) (e : Element) (found some : List ℕ) (before after : List Store) (passed : List ℕ) → length some ≤ length found → length found ≤ length passed → after ≡ with_changes (with_place place e) some before → places_filed after ≤ places_filed before + length passed
counted_after place e found some before after passed few enough is =
    subst (λ ss. places_filed ss ≤ places_filed before + length passed) (sym is) (let counted = places_many place e some before in omega (arith, counted, few, enough))

-- whichever answer filing gave
pub either_way : {T E P Q G : Type 0} (r : Result T E) → OnOk r P → OnErr r Q → (P → G) → (Q → G) → G
either_way (Ok x) of_ok of_err on_ok on_err = on_ok of_ok
either_way (Err x) of_ok of_err on_ok on_err = on_err of_err
