-- The stores that are found for an element: each that lets it in, once.
use Rattle.std.proofs.Common.{◌≡◌, inl, inr, ℕ, ◌+◌, ◌<◌, ◌≤◌, ◌==◌, ◌&&◌, List, [], ◌∷◌, ◌++◌, Bool, true, false, cond, Option, None, Some, append_assoc, refl, reverse, ap, sym, ◌∙◌, arith}
use Rattle.std.specs.List.{filter, flat_map, slice_get}
use Rattle.std.specs.Option.{option_map, option_map_or}
use Rattle.std.proofs.lemmas.Bool.{cases_eq}
use Rattle.std.proofs.lemmas.Bool.Decides.{nat_tests}
use Rattle.std.proofs.lemmas.List.{append-nil}
use Rattle.std.proofs.lemmas.Option.{slice_get-map}
use Rattle.rule_base.specs.declared.element.Element.{Element}
use Rattle.hash_buckets.specs.Buckets.{numbers_of}
use Rattle.join_tests.specs.declared.joins.Pattern.{Pattern}
use Rattle.join_tests.specs.Joining.{passes}
use Rattle.alpha_memory.specs.declared.dispatch.Dispatch.{Dispatch}
use Rattle.alpha_memory.specs.declared.dispatch.Dispatch.TheVariants.{ByClass, ByValue}
use Rattle.alpha_memory.specs.Times.{times}
use Rattle.alpha_memory.specs.Stores.{Store, admits, has_at}
use Rattle.alpha_memory.specs.Dispatch.{IsDispatched, admits_at, dispatch_at, dispatch_hash, dispatch_of, found, found_at, how_often, is_at, pattern_hash, patterns_of}
use Rattle.alpha_memory.proofs.TimesLemmas.{times-agree, times-and, times-append, times-filter, times-flat_map, times-reverse}
use Rattle.alpha_memory.proofs.DispatchLemmas.{same_class, same_hash}

-- a walk along all attributes has come to its end
pub walked : (f : ℕ → List ℕ) (old start first now left begun bucket all : List ℕ) → first ≡ old ++ start → now ++ flat_map f left ≡ first ++ flat_map f begun → left ≡ [] → begun ≡ bucket → bucket ≡ all → now ≡ old ++ (start ++ flat_map f all)
walked f old start first now left begun bucket all first_is rest none begun_is bucket_is =
    sym (append-nil now)
    ∙ ap (λ ns. now ++ flat_map f ns) (sym none)
    ∙ rest
    ∙ ap (λ ns. ns ++ flat_map f begun) first_is
    ∙ ap (λ ns. (old ++ start) ++ flat_map f ns) (begun_is ∙ bucket_is)
    ∙ append_assoc old start (flat_map f all)

-- how often a number is among those of a list that pass a test
kept_there : (n m : ℕ) (keep : ℕ → Bool) → ((n == m) && keep m) ≡ ((n == m) && keep n)
kept_there n m keep = elim (cases_eq n m) [
  | inl same ↦ ap (λ k. (n == m) && keep k) (sym same)
  | inr other ↦ (let no : (n == m) ≡ false = grind (arith, nat_tests, other) in ap (λ b. b && keep m) no ∙ sym (ap (λ b. b && keep n) no))
]

times-kept : (n : ℕ) (keep : ℕ → Bool) (ns : List ℕ) → times (λ m. n == m) (filter keep (reverse ns)) ≡ cond (keep n) (times (λ m. n == m) ns) 0
times-kept n keep ns =
    times-filter (λ m. n == m) keep (reverse ns)
    ∙ times-agree (λ m. (n == m) && keep m) (λ m. (n == m) && keep n) (λ m. kept_there n m keep) (reverse ns)
    ∙ times-and (λ m. n == m) (keep n) (reverse ns)
    ∙ ap (λ k. cond (keep n) k 0) (times-reverse (λ m. n == m) ns)

found_at-times : (stores : List Store) (numbers : List (ℕ × ℕ)) (e : Element) (at : Option ℕ) (n : ℕ) → times (λ m. n == m) (found_at stores numbers e at) ≡ cond (has_at (admits_at at e) stores n) (how_often numbers (dispatch_hash e.class (dispatch_at e at)) n) 0
found_at-times stores numbers e at n = times-kept n (has_at (admits_at at e) stores) (numbers_of numbers (dispatch_hash e.class (dispatch_at e at)))

-- how often a store is filed
filed_at : (stores : List Store) (numbers attributes : List (ℕ × ℕ)) (hash n : ℕ) (store : Store) → IsDispatched (patterns_of stores) numbers attributes → slice_get stores n ≡ Some store → how_often numbers hash n ≡ cond (pattern_hash store.pattern == hash) 1 0
filed_at stores numbers attributes hash n store dispatched there =
    dispatched.filed hash n
    ∙ ap (λ p. cond (option_map_or (λ (pattern : Pattern). pattern_hash pattern == hash) p false) 1 0) (slice_get-map (λ (s : Store). s.pattern) stores n ∙ ap (option_map (λ (s : Store). s.pattern)) there)

-- one number where it is filed under the hash that the element leads to
at_step : (is passing : Bool) (pattern : Pattern) (e : Element) (at : Option ℕ) (k : ℕ) → is_at at (dispatch_of pattern.tests) ≡ is → passes pattern e ≡ passing → k ≡ cond (pattern_hash pattern == dispatch_hash e.class (dispatch_at e at)) 1 0 → cond (is && passing) k 0 ≡ cond is (cond passing 1 0) 0
at_step true true pattern e at k is passing often =
    let same = same_hash pattern e at is passing in
    let test : (pattern_hash pattern == dispatch_hash e.class (dispatch_at e at)) ≡ true = grind (arith, nat_tests, same) in
    often ∙ ap (λ b. cond b 1 0) test
at_step true false pattern e at k is passing often = refl
at_step false true pattern e at k is passing often = refl
at_step false false pattern e at k is passing often = refl

found_at-store : (stores : List Store) (numbers attributes : List (ℕ × ℕ)) (e : Element) (at : Option ℕ) (n : ℕ) (store : Store) → IsDispatched (patterns_of stores) numbers attributes → slice_get stores n ≡ Some store → times (λ m. n == m) (found_at stores numbers e at) ≡ cond (is_at at (dispatch_of store.pattern.tests)) (cond (passes store.pattern e) 1 0) 0
found_at-store stores numbers attributes e at n store dispatched there =
    let hash = dispatch_hash e.class (dispatch_at e at) in
    found_at-times stores numbers e at n
    ∙ ap (λ s. cond (option_map_or (admits_at at e) s false) (how_often numbers hash n) 0) there
    ∙ at_step (is_at at (dispatch_of store.pattern.tests)) (passes store.pattern e) store.pattern e at (how_often numbers hash n) refl refl (filed_at stores numbers attributes hash n store dispatched there)

-- an attribute that leads to a store is listed once, and where none does, none is
times-never : (ns : List ℕ) → times (λ n. false) ns ≡ 0
times-never [] = refl
times-never (n ∷ ns) = omega (arith, times-never ns)

listed-once : (n k : ℕ) → n ≤ 1 → 0 < n → n ≡ 1
listed-once n k le lt = omega arith

listed_for : (patterns : List Pattern) (numbers attributes : List (ℕ × ℕ)) (n : ℕ) (pattern : Pattern) (dispatch : Dispatch) → IsDispatched patterns numbers attributes → slice_get patterns n ≡ Some pattern → dispatch_of pattern.tests ≡ dispatch → times (λ a. is_at (Some a) dispatch) (reverse (numbers_of attributes pattern.class)) ≡ cond (is_at None dispatch) 0 1
listed_for patterns numbers attributes n pattern ByClass dispatched there is = times-never (reverse (numbers_of attributes pattern.class))
listed_for patterns numbers attributes n pattern (ByValue attribute value) dispatched there is =
    let itself : (attribute == attribute) ≡ true = grind (arith, nat_tests) in
    let listed = dispatched.listed n pattern there attribute (ap (is_at (Some attribute)) is ∙ itself) in
    times-reverse (λ a. attribute == a) (numbers_of attributes pattern.class)
    ∙ listed-once (how_often attributes pattern.class attribute) 0 (dispatched.once pattern.class attribute) listed

-- both walks together
together : (none passing : Bool) (first second among : ℕ) → first ≡ cond none (cond passing 1 0) 0 → second ≡ cond passing among 0 → (passing ≡ true → among ≡ cond none 0 1) → first + second ≡ cond passing 1 0
together true true first second among is are once = omega (arith, is, are, once refl)
together true false first second among is are once = omega (arith, is, are)
together false true first second among is are once = omega (arith, is, are, once refl)
together false false first second among is are once = omega (arith, is, are)

found-store : (stores : List Store) (numbers attributes : List (ℕ × ℕ)) (e : Element) (n : ℕ) (store : Store) → IsDispatched (patterns_of stores) numbers attributes → slice_get stores n ≡ Some store → times (λ m. n == m) (found stores numbers attributes e) ≡ cond (admits e store) 1 0
found-store stores numbers attributes e n store dispatched there =
    let dispatch = dispatch_of store.pattern.tests in
    let passing = passes store.pattern e in
    let all = reverse (numbers_of attributes e.class) in
    let at_class = found_at stores numbers e None in
    let at_value : ℕ → List ℕ = λ a. found_at stores numbers e (Some a) in
    let pattern : slice_get (patterns_of stores) n ≡ Some store.pattern = slice_get-map (λ (s : Store). s.pattern) stores n ∙ ap (option_map (λ (s : Store). s.pattern)) there in
    let once : passing ≡ true → times (λ a. is_at (Some a) dispatch) all ≡ cond (is_at None dispatch) 0 1 =
    λ is. ap (λ class. times (λ a. is_at (Some a) dispatch) (reverse (numbers_of attributes class))) (sym (same_class store.pattern e is))
    ∙ listed_for (patterns_of stores) numbers attributes n store.pattern dispatch dispatched pattern refl in
    times-append (λ m. n == m) at_class (flat_map at_value all)
    ∙ together (is_at None dispatch) passing (times (λ m. n == m) at_class) (times (λ m. n == m) (flat_map at_value all)) (times (λ a. is_at (Some a) dispatch) all)
    (found_at-store stores numbers attributes e None n store dispatched there)
    (times-flat_map (λ m. n == m) (λ a. is_at (Some a) dispatch) passing at_value (λ a. found_at-store stores numbers attributes e (Some a) n store dispatched there) all)
    once

-- where there is no store, none is found
found_at-none : (stores : List Store) (numbers : List (ℕ × ℕ)) (e : Element) (at : Option ℕ) (n : ℕ) → slice_get stores n ≡ None → times (λ m. n == m) (found_at stores numbers e at) ≡ 0
found_at-none stores numbers e at n none =
    found_at-times stores numbers e at n
    ∙ ap (λ s. cond (option_map_or (admits_at at e) s false) (how_often numbers (dispatch_hash e.class (dispatch_at e at)) n) 0) none

nothing : (b : Bool) (k : ℕ) → 0 ≡ cond b (cond false k 0) 0
nothing true k = refl
nothing false k = refl

found-none : (stores : List Store) (numbers attributes : List (ℕ × ℕ)) (e : Element) (n : ℕ) → slice_get stores n ≡ None → times (λ m. n == m) (found stores numbers attributes e) ≡ 0
found-none stores numbers attributes e n none =
    let all = reverse (numbers_of attributes e.class) in
    let at_class = found_at stores numbers e None in
    let at_value : ℕ → List ℕ = λ a. found_at stores numbers e (Some a) in
    let first = found_at-none stores numbers e None n none in
    let second : times (λ m. n == m) (flat_map at_value all) ≡ 0 = times-flat_map (λ m. n == m) (λ a. true) false at_value (λ a. found_at-none stores numbers e (Some a) n none) all in
    times-append (λ m. n == m) at_class (flat_map at_value all) ∙ omega (arith, first, second)

found_cases : (stores : List Store) (numbers attributes : List (ℕ × ℕ)) (e : Element) (n : ℕ) (store : Option Store) → IsDispatched (patterns_of stores) numbers attributes → slice_get stores n ≡ store → times (λ m. n == m) (found stores numbers attributes e) ≡ cond (option_map_or (admits e) store false) 1 0
found_cases stores numbers attributes e n None dispatched there = found-none stores numbers attributes e n there
found_cases stores numbers attributes e n (Some store) dispatched there = found-store stores numbers attributes e n store dispatched there

-- each store that lets the element in is found once, and nothing else
pub found-times : (stores : List Store) (numbers attributes : List (ℕ × ℕ)) (e : Element) (n : ℕ) → IsDispatched (patterns_of stores) numbers attributes → times (λ m. n == m) (found stores numbers attributes e) ≡ cond (has_at (admits e) stores n) 1 0
found-times stores numbers attributes e n dispatched = found_cases stores numbers attributes e n (slice_get stores n) dispatched refl
