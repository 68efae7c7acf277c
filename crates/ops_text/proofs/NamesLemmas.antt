-- How the number of a name, and what a store keeps, take lists of names apart.
use Rattle.std.proofs.Common.{◌≡◌, ◌≢◌, ℕ, ◌+◌, ◌<◌, Bool, true, false, cond, ◌||◌, List, [], ◌∷◌, ◌++◌, map, length, length-append, ◌^◌, slice_get, get_or, Some, zero, suc, ◌-◌, refl, sym, ap, ◌∙◌, true≢false, arith}
use Rattle.std.specs.List.{list_any, prefix_len}
use Rattle.std.specs.Str.{bytes_eq}
use Rattle.std.proofs.lemmas.List.Quantifiers.{all_pairs_push}
use Rattle.std.proofs.lemmas.List.Folds.{list_any_at}
use Rattle.std.proofs.lemmas.Option.{none-some, slice_get_within, get_or_from_slice_get}
use Rattle.std.proofs.lemmas.List.Sums.{position_or_len_is}
use Rattle.std.proofs.lemmas.Slice.Eq.{bytes_eq-Decides}
use Rattle.std.proofs.lemmas.List.{map-append}
use Rattle.indexmap.specs.IndexSet.{insert_key}
use Rattle.ops_text.specs.Names.{Names, number_of, AreDistinct, AreNames, AreOneToOne}

-- the first place that passes, of images and of what they are images of
pub prefix_len-map : {A B : Type 0} (p : B → Bool) (v : A → B) (xs : List A) → prefix_len p (map v xs) ≡ prefix_len (λ x. p (v x)) xs
prefix_len-map p v [] = refl
prefix_len-map p v (x ∷ xs) = ap (λ n. cond (p (v x)) (1 + n) 0) (prefix_len-map p v xs)

-- whether an image passes, and whether what it is an image of does
pub list_any-map : {A B : Type 0} (p : B → Bool) (v : A → B) (xs : List A) → list_any p (map v xs) ≡ list_any (λ x. p (v x)) xs
list_any-map p v [] = refl
list_any-map p v (x ∷ xs) = ap (λ b. p (v x) || b) (list_any-map p v xs)

-- a known name stands at its number
pub slice_get-number_of : (names : Names) (name : List ℕ) → list_any (bytes_eq name) names ≡ true → slice_get names (number_of names name) ≡ Some name
slice_get-number_of [] name known = absurd (true≢false (sym known))
slice_get-number_of (first ∷ rest) name known = grind (arith, slice_get-number_of rest name, bytes_eq-Decides)

-- a new name's number is the next one
pub number_of-new : (names : Names) (name : List ℕ) → list_any (bytes_eq name) names ≡ false → number_of names name ≡ length names
number_of-new [] name new = refl
number_of-new (first ∷ rest) name new = grind (arith, number_of-new rest name)

-- one more name that is new leaves no name twice
pub AreDistinct-push : (names : Names) (name : List ℕ) → AreDistinct names → list_any (bytes_eq name) names ≡ false → AreDistinct (names ++ name ∷ [])
AreDistinct-push names name distinct new =
    all_pairs_push (λ earlier later. earlier ≢ later) names name distinct
    (λ k d within same. true≢false (sym (list_any_at (bytes_eq name) names k d within ((bytes_eq-Decides name (get_or names k d)).1 (sym same))) ∙ new))

-- what stands in a list stands at the same place where more follows
pub slice_get-front : {A : Type 0} (xs ys : List A) (i : ℕ) (x : A) → slice_get xs i ≡ Some x → slice_get (xs ++ ys) i ≡ Some x
slice_get-front [] ys i x at = absurd (none-some x at)
slice_get-front (first ∷ rest) ys zero x at = at
slice_get-front (first ∷ rest) ys (suc i) x at = slice_get-front rest ys i x at

-- what is added at the end stands there
pub slice_get-push : {A : Type 0} (xs : List A) (x : A) → slice_get (xs ++ x ∷ []) (length xs) ≡ Some x
slice_get-push [] x = refl
slice_get-push (first ∷ rest) x = slice_get-push rest x

-- one more name that is new is kept as well
pub AreNames-push : (names : Names) (name : List ℕ) → AreNames names → length names < 2 ^ 32 - 1 → list_any (bytes_eq name) names ≡ false → AreNames (names ++ name ∷ [])
AreNames-push names name kept room new = record {
  nil_first = slice_get-front names (name ∷ []) 0 _ kept.nil_first;
  distinct = AreDistinct-push names name kept.distinct new;
  few = omega (arith, length-append names (name ∷ []));
}

-- the bytes of the stored names once one more that is new is among them
pub map-insert_key : {A : Type 0} (v : A → List ℕ) (names : List A) (name : A) → list_any (bytes_eq (v name)) (map v names) ≡ false → map v (insert_key (λ a b. bytes_eq (v a) (v b)) names name) ≡ map v names ++ v name ∷ []
map-insert_key v names name new = rw (sym (list_any-map (bytes_eq (v name)) v names) ∙ new) (map-append v names (name ∷ []))

-- a name stands at its number
pub number_of-slice_get : (names : Names) (place : ℕ) (name : List ℕ) → AreDistinct names → slice_get names place ≡ Some name → number_of names name ≡ place
number_of-slice_get names place name distinct at =
    let within = slice_get_within names place name at in
    let here = get_or_from_slice_get names place name [] at in
    position_or_len_is (bytes_eq name) names place [] (omega arith)
    (λ k before. other k before (bytes_eq name (get_or names k [])) refl)
    (λ _. (bytes_eq-Decides name (get_or names place [])).1 (sym here))
  where
    other : (k : ℕ) → k < place → (b : Bool) → bytes_eq name (get_or names k []) ≡ b → bytes_eq name (get_or names k []) ≡ false
    other k before false e = e
    other k before true e =
        absurd (distinct k place [] before (slice_get_within names place name at)
        (sym ((bytes_eq-Decides name (get_or names k [])).0 e) ∙ sym (get_or_from_slice_get names place name [] at)))

-- distinct names are one to one with their numbers
pub AreOneToOne-from_distinct : (names : Names) → AreDistinct names → AreOneToOne names
AreOneToOne-from_distinct names distinct = record {
  number = λ place name at. number_of-slice_get names place name distinct at;
  place = λ first second name at also_at.
      sym (number_of-slice_get names first name distinct at) ∙ number_of-slice_get names second name distinct also_at;
}
