-- Stores, of which one changes, or several one after another.
use Rattle.std.proofs.Common.{◌≡◌, ℕ, zero, suc, ◌<◌, ◌≤◌, ◌==◌, List, [], ◌∷◌, ◌++◌, Bool, true, false, cond, get_or, length, None, Some, refl, ap, sym, ◌∙◌, arith, set, take, ◌+◌}
use Rattle.std.specs.List.{slice_get}
use Rattle.std.specs.Option.{option_map}
use Rattle.std.proofs.lemmas.Bool.Decides.{nat_tests}
use Rattle.std.proofs.lemmas.List.Sums.{fold-append}
use Rattle.std.proofs.Math.ListN.{get_or-map}
use Rattle.std.proofs.lemmas.List.{take_more}
use Rattle.rule_base.specs.declared.element.Element.{Element}
use Rattle.join_tests.specs.declared.joins.KeyPart.{KeyPart}
use Rattle.alpha_memory.specs.Stores.{Store, attributes_of, hash_at, with_change, with_changes, with_place}
use Rattle.alpha_memory.specs.Dispatch.{patterns_of}

-- keys with the same attributes have the same at each place
pub attributes_at : (a b : List KeyPart) (i : ℕ) (d : KeyPart) → attributes_of a ≡ attributes_of b → i < length a → i < length b → (get_or a i d).attribute ≡ (get_or b i d).attribute
attributes_at a b i d same lt le =
    let attribute : KeyPart → ℕ = λ part. part.attribute in
    sym (get_or-map attribute a i d) ∙ ap (λ ns. get_or ns i d.attribute) same ∙ get_or-map attribute b i d

pub with_change-set : (f : Store → Store) (n : ℕ) (stores : List Store) (d : Store) → n < length stores → set stores n (f (get_or stores n d)) ≡ with_change f n stores
with_change-set f n [] d lt = absurd (omega arith)
with_change-set f zero (s ∷ stores) d lt = refl
with_change-set f (suc n) (s ∷ stores) d lt = ap (λ ss. s ∷ ss) (with_change-set f n stores d (omega arith))

pub with_change-past : (f : Store → Store) (n : ℕ) (stores : List Store) → length stores ≤ n → stores ≡ with_change f n stores
with_change-past f n [] le = refl
with_change-past f zero (s ∷ stores) le = absurd (omega arith)
with_change-past f (suc n) (s ∷ stores) le = ap (λ ss. s ∷ ss) (with_change-past f n stores (omega arith))

pub with_changes-push : (f : Store → Store) (ns : List ℕ) (n : ℕ) (stores : List Store) → with_changes f (ns ++ n ∷ []) stores ≡ with_change f n (with_changes f ns stores)
with_changes-push f ns n stores = fold-append (λ ss m. with_change f m ss) stores ns (n ∷ [])

-- a change of what is filed keeps the patterns
pub patterns-with_change : (f : Store → Store) → ((s : Store) → (f s).pattern ≡ s.pattern) → (n : ℕ) (stores : List Store) → patterns_of (with_change f n stores) ≡ patterns_of stores
patterns-with_change f keeps n [] = refl
patterns-with_change f keeps zero (s ∷ stores) = ap (λ p. p ∷ patterns_of stores) (keeps s)
patterns-with_change f keeps (suc n) (s ∷ stores) = ap (λ ps. s.pattern ∷ ps) (patterns-with_change f keeps n stores)

-- what stands at a place once one store has changed
none_either : (b : Bool) → cond b (option_map {U = Store} (λ (s : Store). s) None) None ≡ None
none_either true = refl
none_either false = refl

zero_first : (n : ℕ) → (zero == suc n) ≡ false
zero_first n = grind (arith, nat_tests)

zero_last : (n : ℕ) → (suc n == zero) ≡ false
zero_last n = grind (arith, nat_tests)

both_less : (n m : ℕ) → (suc m == suc n) ≡ (m == n)
both_less n m = grind (arith, nat_tests)

pub slice_get-with_change : (f : Store → Store) (n m : ℕ) (stores : List Store) → slice_get (with_change f n stores) m ≡ cond (m == n) (option_map f (slice_get stores m)) (slice_get stores m)
slice_get-with_change f n m [] = sym (none_either (m == n))
slice_get-with_change f zero zero (s ∷ stores) = refl
slice_get-with_change f zero (suc m) (s ∷ stores) = ap (λ b. cond b (option_map f (slice_get stores m)) (slice_get stores m)) (sym (zero_last m))
slice_get-with_change f (suc n) zero (s ∷ stores) = ap (λ b. cond b (Some (f s)) (Some s)) (sym (zero_first n))
slice_get-with_change f (suc n) (suc m) (s ∷ stores) = slice_get-with_change f n m stores ∙ ap (λ b. cond b (option_map f (slice_get stores m)) (slice_get stores m)) (sym (both_less n m))

pattern_kept : (s : Store) (entries : List (ℕ × ℕ)) (b : Bool) → (cond b (record s { entries = entries }) s).pattern ≡ s.pattern
pattern_kept s entries true = refl
pattern_kept s entries false = refl

-- filing keeps the pattern
pub pattern-with_place : (place : ℕ) (e : Element) (s : Store) → (with_place place e s).pattern ≡ s.pattern
pattern-with_place place e s = pattern_kept s (s.entries ++ (hash_at s.attributes e, place) ∷ []) s.is_kept

-- one more of the stores has changed
pub record IsFurther (f : Store → Store) (numbers : List ℕ) (i : ℕ) (before now after : List Store) : Type 0 where
  pub so_far : after ≡ with_changes f (take (i + 1) numbers) before
  pub patterns : patterns_of after ≡ patterns_of before

pub further : (f : Store → Store) (numbers : List ℕ) (i : ℕ) (before now after : List Store) → ((s : Store) → (f s).pattern ≡ s.pattern) → i < length numbers → now ≡ with_changes f (take i numbers) before → patterns_of now ≡ patterns_of before → after ≡ with_change f (get_or numbers i 0) now → IsFurther f numbers i before now after
further f numbers i before now after keeps lt so_far patterns changed = record {
  so_far =
      changed ∙ ap (with_change f (get_or numbers i 0)) so_far
      ∙ sym (with_changes-push f (take i numbers) (get_or numbers i 0) before)
      ∙ ap (λ ns. with_changes f ns before) (sym (take_more numbers i 0 lt));
  patterns = ap patterns_of changed ∙ patterns-with_change f keeps (get_or numbers i 0) now ∙ patterns;
}

-- one store was read, and written with a change
pub changed_at : (f : Store → Store) (n : ℕ) (stores : List Store) (past new : Store) → new ≡ f (get_or stores n past) → n < length stores → set stores n new ≡ with_change f n stores
changed_at f n stores past new changed lt = ap (set stores n) changed ∙ with_change-set f n stores past lt

pub changed_in : (f : Store → Store) (n : ℕ) (stores before : List Store) (old new : Store) → new ≡ f old → old ≡ get_or stores n old → n < length stores → stores ≡ before → set stores n new ≡ with_change f n before
changed_in f n stores before old new changed was lt same = changed_at f n stores old new (changed ∙ ap f was) lt ∙ ap (with_change f n) same
