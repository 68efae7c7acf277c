-- An element is filed in the stores that let it in, each named once.
use Rattle.std.proofs.Common.{◌≡◌, inl, inr, ℕ, zero, suc, ◌+◌, ◌≤◌, ◌==◌, ◌⊎◌, List, [], ◌∷◌, ◌++◌, Bool, true, false, cond, Option, None, Some, drop, length, map, refl, take, ap, sym, ◌∙◌, ◌-◌, arith, length-append}
use Rattle.std.specs.List.{slice_get}
use Rattle.std.specs.Option.{option_map, option_map_or}
use Rattle.std.proofs.Math.Seq.{drop-append_seam}
use Rattle.std.proofs.lemmas.List.{take_all}
use Rattle.std.proofs.lemmas.Option.{slice_get-map}
use Rattle.rule_base.specs.declared.element.Element.{Element}
use Rattle.alpha_memory.specs.Times.{times}
use Rattle.alpha_memory.specs.Stores.{AreFiledOrNot, Store, admits, filed, has_at, with_change, with_changes, with_place}
use Rattle.alpha_memory.proofs.ChangeLemmas.{slice_get-with_change}

-- a change, so many times
abbrev pub again : (Store → Store) → ℕ → Store → Store
again f zero store = store
again f (suc n) store = again f n (f store)

once_more : (f : Store → Store) (here : Bool) (k : ℕ) (store : Option Store) → option_map (again f k) (cond here (option_map f store) store) ≡ option_map (again f (cond here 1 0 + k)) store
once_more f true k None = refl
once_more f false k None = refl
once_more f true k (Some store) = let more : suc k ≡ 1 + k = omega arith in ap (λ n. Some (again f n store)) more
once_more f false k (Some store) = let same : k ≡ 0 + k = omega arith in ap (λ n. Some (again f n store)) same

-- each store has changed as often as it is named
unchanged : (f : Store → Store) (store : Option Store) → store ≡ option_map (again f 0) store
unchanged f None = refl
unchanged f (Some store) = refl

slice_get-with_changes : (f : Store → Store) (ns : List ℕ) (stores : List Store) (n : ℕ) → slice_get (with_changes f ns stores) n ≡ option_map (again f (times (λ m. n == m) ns)) (slice_get stores n)
slice_get-with_changes f [] stores n = unchanged f (slice_get stores n)
slice_get-with_changes f (m ∷ ns) stores n =
    slice_get-with_changes f ns (with_change f m stores) n
    ∙ ap (option_map (again f (times (λ k. n == k) ns))) (slice_get-with_change f m n stores)
    ∙ once_more f (n == m) (times (λ k. n == k) ns) (slice_get stores n)

same_from_places : (xs ys : List Store) → ((n : ℕ) → slice_get xs n ≡ slice_get ys n) → xs ≡ ys
same_from_places [] [] same = refl
same_from_places [] (y ∷ ys) same = absurd (let first : None ≡ Some y = same zero in let wrong : ⊥ = cc in wrong)
same_from_places (x ∷ xs) [] same = absurd (let first : Some x ≡ None = same zero in let wrong : ⊥ = cc in wrong)
same_from_places (x ∷ xs) (y ∷ ys) same =
    let first : Some x ≡ Some y = same zero in
    let head : x ≡ y = cc in
    ap (λ z. z ∷ xs) head ∙ ap (λ zs. y ∷ zs) (same_from_places xs ys (λ n. same (suc n)))

-- a store that is named once where it lets the element in, and else isn't named
admitted : (place : ℕ) (e : Element) (let_in : Bool) (store : Store) → again (with_place place e) (cond let_in 1 0) store ≡ cond let_in (with_place place e store) store
admitted place e true store = refl
admitted place e false store = refl

filed_here : (place : ℕ) (e : Element) (store : Option Store) → option_map (again (with_place place e) (cond (option_map_or (admits e) store false) 1 0)) store ≡ option_map (filed place e) store
filed_here place e None = refl
filed_here place e (Some store) = ap Some (admitted place e (admits e store) store)

pub filed_all : (place : ℕ) (e : Element) (ns : List ℕ) (stores : List Store) → ((n : ℕ) → times (λ m. n == m) ns ≡ cond (has_at (admits e) stores n) 1 0) → with_changes (with_place place e) ns stores ≡ map (filed place e) stores
filed_all place e ns stores once = same_from_places (with_changes (with_place place e) ns stores) (map (filed place e) stores) (λ n.
    slice_get-with_changes (with_place place e) ns stores n
    ∙ ap (λ k. option_map (again (with_place place e) k) (slice_get stores n)) (once n)
    ∙ filed_here place e (slice_get stores n)
    ∙ sym (slice_get-map (filed place e) stores n))

-- where filing broke off
times-take : (test : ℕ → Bool) (count : ℕ) (ns : List ℕ) → times test (take count ns) ≤ times test ns
times-take test zero ns = omega arith
times-take test (suc count) [] = omega arith
times-take test (suc count) (n ∷ ns) = omega (arith, times-take test count ns)

some_once : (place : ℕ) (e : Element) (k : ℕ) (let_in : Bool) (store : Store) → admits e store ≡ let_in → suc k ≤ cond let_in 1 0 → (Some (again (with_place place e) (suc k) store) ≡ Some store) ⊎ (Some (again (with_place place e) (suc k) store) ≡ Some (filed place e store))
some_once place e k true store is le =
    let none : k ≡ 0 = omega (arith, le) in
    inr (ap (λ n. Some (again (with_place place e) n (with_place place e store))) none ∙ ap (λ b. Some (cond b (with_place place e store) store)) (sym is))
some_once place e k false store is le = absurd (omega (arith, le))

some_or_none : (place : ℕ) (e : Element) (k : ℕ) (store : Option Store) → k ≤ cond (option_map_or (admits e) store false) 1 0 → (option_map (again (with_place place e) k) store ≡ store) ⊎ (option_map (again (with_place place e) k) store ≡ option_map (filed place e) store)
some_or_none place e k None le = inl refl
some_or_none place e zero (Some store) le = inl refl
some_or_none place e (suc k) (Some store) le = some_once place e k (admits e store) store refl le

pub filed_some : (place : ℕ) (e : Element) (ns : List ℕ) (count : ℕ) (stores after : List Store) → ((n : ℕ) → times (λ m. n == m) ns ≡ cond (has_at (admits e) stores n) 1 0) → after ≡ with_changes (with_place place e) (take count ns) stores → AreFiledOrNot place e stores after
filed_some place e ns count stores after once is = λ n.
    let k = times (λ m. n == m) (take count ns) in
    let here : slice_get after n ≡ option_map (again (with_place place e) k) (slice_get stores n) = ap (λ ss. slice_get ss n) is ∙ slice_get-with_changes (with_place place e) (take count ns) stores n in
    let le : k ≤ cond (has_at (admits e) stores n) 1 0 = omega (arith, times-take (λ m. n == m) count ns, once n) in
    elim (some_or_none place e k (slice_get stores n) le) [ inl none ↦ inl (here ∙ none) | inr one ↦ inr (here ∙ one) ]

-- the numbers that were added behind others
pub added_behind : (old whole passed more : List ℕ) (start : ℕ) → start ≡ length old → whole ≡ passed → passed ≡ old ++ more → take (length whole - start) (drop start whole) ≡ more
added_behind old whole passed more start start_is whole_is passed_is =
    let all : whole ≡ old ++ more = whole_is ∙ passed_is in
    let long : length whole ≡ length old + length more = ap length all ∙ length-append old more in
    let behind : drop start whole ≡ more = ap (drop start) all ∙ ap (λ n. drop n (old ++ more)) start_is ∙ drop-append_seam old more in
    ap (take (length whole - start)) behind ∙ take_all (length whole - start) more (omega (arith, long, start_is))
