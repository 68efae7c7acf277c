-- One more store, filed under the hash that leads to it.
use Rattle.std.proofs.Common.{◌≡◌, inl, inr, ℕ, zero, suc, ◌+◌, ◌<◌, ◌≤◌, ◌^◌, ◌==◌, ◌&&◌, ◌⊎◌, List, [], ◌∷◌, ◌++◌, Bool, true, false, cond, Option, None, Some, length, refl, reverse, ap, subst, sym, ◌∙◌, arith, get_or, length-append, set}
use Rattle.std.specs.List.{slice_get}
use Rattle.std.specs.Option.{option_map, option_map_or}
use Rattle.std.proofs.lemmas.Bool.{cases_eq, cases_lt}
use Rattle.std.proofs.lemmas.Bool.Decides.{nat_tests}
use Rattle.std.proofs.lemmas.Option.{slice_get-map, slice_get_past}
use Rattle.hash_buckets.specs.Buckets.{numbers_of}
use Rattle.std.proofs.Math.Seq.{map-set_same}
use Rattle.std.proofs.lemmas.List.{length-map, map-append}
use Rattle.join_tests.specs.declared.joins.LoneTest.{LoneTest}
use Rattle.join_tests.specs.declared.joins.Pattern.{Pattern}
use Rattle.alpha_memory.specs.declared.dispatch.Dispatch.{Dispatch}
use Rattle.alpha_memory.specs.Times.{times}
use Rattle.alpha_memory.specs.Stores.{Serves, Store, emptied}
use Rattle.alpha_memory.specs.Dispatch.{IsDispatched, IsListed, Lists, dispatch_hash, dispatch_of, how_often, pattern_hash, patterns_of}
use Rattle.alpha_memory.proofs.TimesLemmas.{times-reverse}
use Rattle.alpha_memory.proofs.ListingLemmas.{how_often-push}

-- what stands at a place once one more has come
pub slice_get-before : {X : Type 0} (xs : List X) (x : X) (n : ℕ) → n < length xs → slice_get (xs ++ x ∷ []) n ≡ slice_get xs n
slice_get-before [] x n lt = absurd (omega arith)
slice_get-before (y ∷ xs) x zero lt = refl
slice_get-before (y ∷ xs) x (suc n) lt = slice_get-before xs x n (omega arith)

slice_get-last : {X : Type 0} (xs : List X) (x : X) → slice_get (xs ++ x ∷ []) (length xs) ≡ Some x
slice_get-last [] x = refl
slice_get-last (y ∷ xs) x = slice_get-last xs x

abbrev tests_at : ℕ → Option Pattern → Bool
tests_at hash pattern = option_map_or (λ p. pattern_hash p == hash) pattern false

and_false : (often : ℕ) (b : Bool) → often + cond (b && false) 1 0 ≡ often
and_false often true = omega arith
and_false often false = omega arith

and_true : (often : ℕ) (b : Bool) → often ≡ 0 → often + cond (b && true) 1 0 ≡ cond b 1 0
and_true often true is = omega (arith, is)
and_true often false is = omega (arith, is)

past : (hash : ℕ) (patterns : List Pattern) (pattern : Pattern) (n often : ℕ) → length patterns ≤ n → often ≡ 0 → often + cond ((pattern_hash pattern == hash) && (n == length patterns)) 1 0 ≡ cond (tests_at hash (slice_get (patterns ++ pattern ∷ []) n)) 1 0
past hash patterns pattern n often le is = elim (cases_eq n (length patterns)) [
  | inl same ↦ (
      let here : (n == length patterns) ≡ true = grind (arith, nat_tests, same) in
      ap (λ b. often + cond ((pattern_hash pattern == hash) && b) 1 0) here
      ∙ and_true often (pattern_hash pattern == hash) is
      ∙ ap (λ p. cond (tests_at hash p) 1 0) (sym (ap (slice_get (patterns ++ pattern ∷ [])) same ∙ slice_get-last patterns pattern)))
  | inr other ↦ (
      let no : (n == length patterns) ≡ false = grind (arith, nat_tests, other) in
      let longer : length (patterns ++ pattern ∷ []) ≤ n = omega (arith, length-append patterns (pattern ∷ []), other, le) in
      ap (λ b. often + cond ((pattern_hash pattern == hash) && b) 1 0) no
      ∙ and_false often (pattern_hash pattern == hash)
      ∙ is
      ∙ ap (λ p. cond (tests_at hash p) 1 0) (sym (slice_get_past (patterns ++ pattern ∷ []) n longer)))
]

more_filed : (hash : ℕ) (patterns : List Pattern) (pattern : Pattern) (n often : ℕ) → often ≡ cond (tests_at hash (slice_get patterns n)) 1 0 → often + cond ((pattern_hash pattern == hash) && (n == length patterns)) 1 0 ≡ cond (tests_at hash (slice_get (patterns ++ pattern ∷ []) n)) 1 0
more_filed hash patterns pattern n often is = elim (cases_lt n (length patterns)) [
  | inl lt ↦ (
      let other : (n == length patterns) ≡ false = grind (arith, nat_tests, lt) in
      ap (λ b. often + cond ((pattern_hash pattern == hash) && b) 1 0) other
      ∙ and_false often (pattern_hash pattern == hash)
      ∙ is
      ∙ ap (λ p. cond (tests_at hash p) 1 0) (sym (slice_get-before patterns pattern n lt)))
  | inr le ↦ past hash patterns pattern n often le (is ∙ ap (λ p. cond (tests_at hash p) 1 0) (slice_get_past patterns n le))
]

-- a pattern is among those before, or the last one
more_listed : (patterns : List Pattern) (last : Pattern) (n : ℕ) (pattern : Pattern) → slice_get (patterns ++ last ∷ []) n ≡ Some pattern → (slice_get patterns n ≡ Some pattern) ⊎ (last ≡ pattern)
more_listed [] last zero pattern is = inr (let same : last ≡ pattern = cc in same)
more_listed [] last (suc n) pattern is = absurd (let wrong : ⊥ = cc in wrong)
more_listed (p ∷ patterns) last zero pattern is = inl is
more_listed (p ∷ patterns) last (suc n) pattern is = more_listed patterns last n pattern is

pub IsDispatched-lists : (patterns : List Pattern) (numbers before after : List (ℕ × ℕ)) (pattern : Pattern) → IsDispatched patterns numbers before → Lists pattern.class (dispatch_of pattern.tests) before after → IsDispatched patterns numbers after
IsDispatched-lists patterns numbers before after pattern dispatched lists = record {
  few = dispatched.few;
  filed = dispatched.filed;
  listed = λ n p there attribute is. omega (arith, dispatched.listed n p there attribute is, lists.kept p.class attribute);
  once = λ c a. omega (arith, dispatched.once c a, lists.once c a);
}

pub IsDispatched-push : (patterns : List Pattern) (numbers before after : List (ℕ × ℕ)) (pattern : Pattern) → IsDispatched patterns numbers before → Lists pattern.class (dispatch_of pattern.tests) before after → length patterns + 1 < 2 ^ 32 → IsDispatched (patterns ++ pattern ∷ []) (numbers ++ (pattern_hash pattern, length patterns) ∷ []) after
IsDispatched-push patterns numbers before after pattern dispatched lists few =
    let now = IsDispatched-lists patterns numbers before after pattern dispatched lists in
    record {
      few = omega (arith, length-append patterns (pattern ∷ []));
      filed = λ hash n. how_often-push numbers (pattern_hash pattern) (length patterns) hash n ∙ more_filed hash patterns pattern n (how_often numbers hash n) (now.filed hash n);
      listed = λ n p there. elim (more_listed patterns pattern n p there) [
        | inl old ↦ now.listed n p old
        | inr same ↦ subst (IsListed after) same lists.listed
      ];
      once = now.once;
    }

-- a store that asks alike would have been found
pattern_there : (store : Option Store) (wanted : Store) → option_map emptied store ≡ Some (emptied wanted) → option_map (λ (s : Store). s.pattern) store ≡ Some wanted.pattern
pattern_there None wanted serves = absurd (let wrong : ⊥ = cc in wrong)
pattern_there (Some store) wanted serves =
    let same : emptied store ≡ emptied wanted = cc in
    ap (λ (s : Store). Some s.pattern) same

along_bucket : (numbers : List (ℕ × ℕ)) (hash n : ℕ) (bucket : List ℕ) → bucket ≡ reverse (numbers_of numbers hash) → times (λ m. n == m) bucket ≡ how_often numbers hash n
along_bucket numbers hash n bucket is = ap (times (λ m. n == m)) is ∙ times-reverse (λ m. n == m) (numbers_of numbers hash)

filed_once : (patterns : List Pattern) (numbers attributes : List (ℕ × ℕ)) (pattern : Pattern) (hash n : ℕ) → IsDispatched patterns numbers attributes → slice_get patterns n ≡ Some pattern → (pattern_hash pattern == hash) ≡ true → how_often numbers hash n ≡ 1
filed_once patterns numbers attributes pattern hash n dispatched there same =
    dispatched.filed hash n ∙ ap (λ p. cond (tests_at hash p) 1 0) there ∙ ap (λ b. cond b 1 0) same

same_number : (m n : ℕ) → n ≡ m → (m == n) ≡ true
same_number m n same = grind (arith, nat_tests, same)

pub not_served : (stores : List Store) (numbers attributes : List (ℕ × ℕ)) (wanted : Store) (hash : ℕ) (bucket : List ℕ) (n : ℕ) → IsDispatched (patterns_of stores) numbers attributes → hash ≡ pattern_hash wanted.pattern → bucket ≡ reverse (numbers_of numbers hash) → Serves wanted stores n → times (λ m. n == m) bucket ≡ 0 → ⊥
not_served stores numbers attributes wanted hash bucket n dispatched hash_is bucket_is serves none =
    let there : slice_get (patterns_of stores) n ≡ Some wanted.pattern = slice_get-map (λ (s : Store). s.pattern) stores n ∙ pattern_there (slice_get stores n) wanted serves in
    let often = filed_once (patterns_of stores) numbers attributes wanted.pattern hash n dispatched there (same_number (pattern_hash wanted.pattern) hash hash_is) in
    omega (arith, often, along_bucket numbers hash n bucket bucket_is, none)

pub hash_found : (wanted pattern : Pattern) (tests : List LoneTest) (dispatch : Dispatch) (hash : ℕ) → pattern ≡ wanted → tests ≡ pattern.tests → dispatch ≡ dispatch_of tests → hash ≡ dispatch_hash pattern.class dispatch → hash ≡ pattern_hash wanted
hash_found wanted pattern tests dispatch hash same tests_are dispatch_is hash_is =
    hash_is ∙ ap (dispatch_hash pattern.class) (dispatch_is ∙ ap dispatch_of tests_are) ∙ ap pattern_hash same

-- a store was added
pub IsDispatched-added : (stores reserved now : List Store) (store : Store) (numbers more before after : List (ℕ × ℕ)) (first second : Pattern) (tests : List LoneTest) (dispatch : Dispatch) (hash number : ℕ) → IsDispatched (patterns_of stores) numbers before → first ≡ store.pattern → second ≡ store.pattern → tests ≡ second.tests → dispatch ≡ dispatch_of tests → Lists first.class dispatch before after → hash ≡ dispatch_hash first.class dispatch → number ≡ length stores → number + 1 < 2 ^ 32 → more ≡ numbers ++ (hash, number) ∷ [] → reserved ≡ stores → now ≡ reserved ++ store ∷ [] → IsDispatched (patterns_of now) more after
IsDispatched-added stores reserved now store numbers more before after first second tests dispatch hash number dispatched first_is second_is tests_are dispatch_is lists hash_is number_is few more_is reserved_is now_is =
    let patterns = patterns_of stores in
    let pattern = store.pattern in
    let dispatch_there : dispatch ≡ dispatch_of pattern.tests = dispatch_is ∙ ap dispatch_of tests_are ∙ ap (λ (p : Pattern). dispatch_of p.tests) second_is in
    let lists_there : Lists pattern.class (dispatch_of pattern.tests) before after = subst (λ d. Lists pattern.class d before after) dispatch_there (subst (λ (p : Pattern). Lists p.class dispatch before after) first_is lists) in
    let hash_there : hash ≡ pattern_hash pattern = hash_is ∙ ap (λ (p : Pattern). dispatch_hash p.class dispatch) first_is ∙ ap (dispatch_hash pattern.class) dispatch_there in
    let length_is : length stores ≡ length patterns = sym (length-map stores (λ (s : Store). s.pattern)) in
    let whole = IsDispatched-push patterns numbers before after pattern dispatched lists_there (omega (arith, few, number_is, length_is)) in
    let numbers_are : numbers ++ (pattern_hash pattern, length patterns) ∷ [] ≡ more = sym (more_is ∙ ap (λ h. numbers ++ (h, number) ∷ []) hash_there ∙ ap (λ n. numbers ++ (pattern_hash pattern, n) ∷ []) (number_is ∙ length_is)) in
    let patterns_are : patterns ++ pattern ∷ [] ≡ patterns_of now = sym (ap patterns_of (now_is ∙ ap (λ ss. ss ++ store ∷ []) reserved_is) ∙ map-append (λ (s : Store). s.pattern) stores (store ∷ [])) in
    subst (λ ps. IsDispatched ps more after) patterns_are (subst (λ ns. IsDispatched (patterns ++ pattern ∷ []) ns after) numbers_are whole)

-- one store was written, with the pattern that it had
pub IsDispatched-set : (stores : List Store) (n : ℕ) (past old new : Store) (numbers attributes : List (ℕ × ℕ)) → IsDispatched (patterns_of stores) numbers attributes → new.pattern ≡ old.pattern → old ≡ get_or stores n past → IsDispatched (patterns_of (set stores n new)) numbers attributes
IsDispatched-set stores n past old new numbers attributes dispatched kept old_is =
    let pattern : Store → Pattern = λ s. s.pattern in
    subst (λ ps. IsDispatched ps numbers attributes) (sym (map-set_same pattern stores n new past (kept ∙ ap pattern old_is))) dispatched
